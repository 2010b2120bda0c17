-- `engine::scan::found` meets its contract.
use mathlib.Core.Path.{sym, ◌∙◌, ap}
use lib.IntN.{pos}
use lib.Signed.{lt_z}
use Rattle.fraction.proofs.Quotients.{unread}
use Rattle.engine.specs.Held.{found_of}
use Rattle.engine.proofs.scan.found.Goals as goal

pub returns-then-p-gt0 : goal.returns-then-p-gt0
returns-then-p-gt0 c =
    let d = c.args.held.point.d in
    let h = c.struct_told-1.given.1.1.0.1 in
    rw (sym (ap (lt_z (pos 0)) (unread {z = d} h)) ∙ c.if-p-gt0.true, found_of)

pub returns-else-p-gt0 : goal.returns-else-p-gt0
returns-else-p-gt0 c =
    let d = c.args.held.point.d in
    let h = c.struct_told-1.given.1.1.0.1 in
    rw (sym (ap (lt_z (pos 0)) (unread {z = d} h)) ∙ c.if-p-gt0.false, found_of)
