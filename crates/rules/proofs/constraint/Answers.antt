-- `rules::constraint` meets its contract: kind 2 turned round number by number.
use mathlib.Core.Path.{◌≡◌}
use native.Mathlib.Omega.{arith}
use lib.IntN.{pos, neg_ℤ, ◌-ℤ◌}
use mir.Syntax.{w16, w32, w64}
use mir.Val.{to_z, of_z, SFits}
use Rattle.std.proofs.lemmas.Int.{ints}
use borrow.Author.Rules.{rules}
use borrow.Author.Tests.{eq-eqb}
use Rattle.rules.proofs.constraint.Goals as goal

pub returns-then-kind-eq2 : goal.returns-then-kind-eq2
returns-then-kind-eq2 c =
    let r = c.args.rule in
    let fa : SFits w16 r.a = search rules in
    let fb : SFits w16 r.b = search rules in
    let fc : SFits w32 r.c = search rules in
    let a : to_z w64 (of_z w64 (pos 0 -ℤ to_z w64 (of_z w64 c.from-a.result))) ≡ neg_ℤ r.a = omega (arith, ints) in
    let b : to_z w64 (of_z w64 (pos 0 -ℤ to_z w64 (of_z w64 c.from-b.result))) ≡ neg_ℤ r.b = omega (arith, ints) in
    let k : to_z w64 (of_z w64 (pos 0 -ℤ to_z w64 (of_z w64 c.from-c.result))) ≡ neg_ℤ r.c = omega (arith, ints) in
    rw (eq-eqb r.kind 2 c.if-kind-eq2.true) (λ i. record { a = a i; b = b i; c = k i })
