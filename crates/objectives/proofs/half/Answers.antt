-- `objectives::half` meets its contract: two bytes make the number of two bytes (`two_bytes`).
use Prim.Native.Nat.{◌+◌, ◌*◌}
use mathlib.Core.Path.{◌≡◌, ◌∙◌, ap}
use native.Mathlib.Omega.{arith}
use lib.ListN.{get_or}
use mir.Syntax.{w16, w64}
use mir.Val.{SFits, to_z, of_z}
use Rattle.std.proofs.lemmas.Int.{ints}
use borrow.Author.Rules.{rules}
use Rattle.records.proofs.Numbers.{two_bytes}
use Rattle.objectives.specs.Objectives.{half_at}
use Rattle.objectives.proofs.half.Goals as goal

pub returns : goal.returns
returns c =
    let s = c.args.bytes.now in
    let at = c.args.at in
    let sum : get_or s at 0 + get_or s (at + 1) 0 * 256 ≡ half_at s at = omega (arith, two_bytes s at) in
    let fits : SFits w16 c.from_le_bytes.result = search rules in
    let wide : to_z w64 (of_z w64 c.from.result) ≡ c.from_le_bytes.result = omega (arith, ints) in
    wide ∙ c.from_le_bytes.ensures ∙ ap (to_z w16) sum
