-- `forms::operands::bounded` meets its contract. Three tests, of which the first that fails decides.
use mathlib.Core.Path.{sym, ◌∙◌}
use mathlib.Core.Bool.{◌&&◌}
use Rattle.forms.specs.Value.{inside}
use Rattle.forms.proofs.Values.{inside-read, and_last, and_first}
use Rattle.forms.proofs.operands.bounded.Goals as goal

pub returns-then-inside-2 : goal.returns-then-inside-2
returns-then-inside-2 c =
    let f = c.args.f in
    let n = c.args.n in
    let one = inside-read n f.a (record { sfits = c.struct_told-1.given.0.1 }) c.inside.ensures in
    let two = inside-read n f.b (record { sfits = c.struct_told-then-inside-1.given.1.0.1 }) c.inside-then-inside.ensures in
    let three = inside-read c.args.m f.c (record { sfits = c.struct_told-then-inside-2-1.given.1.1.0.1 })
    c.inside-then-inside-2.ensures in
    and_last (sym one ∙ c.if-inside.true) (and_last (sym two ∙ c.if-inside-2.true) three)

pub returns-else-inside-2 : goal.returns-else-inside-2
returns-else-inside-2 c =
    let f = c.args.f in
    let n = c.args.n in
    let one = inside-read n f.a (record { sfits = c.struct_told-1.given.0.1 }) c.inside.ensures in
    let two = inside-read n f.b (record { sfits = c.struct_told-then-inside-1.given.1.0.1 }) c.inside-then-inside.ensures in
    and_last (sym one ∙ c.if-inside.true) (and_first (inside c.args.m f.c) two c.if-inside-2.false)

pub returns-else-inside : goal.returns-else-inside
returns-else-inside c =
    let f = c.args.f in
    let n = c.args.n in
    let one = inside-read n f.a (record { sfits = c.struct_told-1.given.0.1 }) c.inside.ensures in
    and_first (inside n f.b && inside c.args.m f.c) one c.if-inside.false
