-- `steps::state::begun` meets its contract: the numbers widened, and 64 blank places.
use native.Mathlib.Omega.{arith}
use mathlib.Core.Path.{◌≡◌}
use mir.Syntax.{w64}
use mir.Val.{to_z, of_z}
use lib.ListN.{replicate}
use Rattle.std.proofs.lemmas.Int.{ints}
use Rattle.steps.proofs.state.begun.Goals as goal

pub returns : goal.returns
returns c =
    let p : to_z w64 (of_z w64 c.from.result) ≡ c.args.p = omega (arith, ints) in
    let q : to_z w64 (of_z w64 c.from-2.result) ≡ c.args.q = omega (arith, ints) in
    let lx : to_z w64 (of_z w64 c.from-3.result) ≡ c.args.lx = omega (arith, ints) in
    let ly : to_z w64 (of_z w64 c.from-4.result) ≡ c.args.ly = omega (arith, ints) in
    λ i. record {
      rules = replicate 64 (c.no_rule-rules.ensures i);
      n = 0;
      terms = record { objective = record { p = p i; q = q i }; floors = record { lx = lx i; ly = ly i } };
    }
