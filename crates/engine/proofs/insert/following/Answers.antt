-- `engine::insert::following` meets its contract.
use borrow.Author.Tests.{lt-ltb, le-ltb}
use mathlib.Core.Path.{◌≡◌, ◌∙◌, sym, ap}
use Prim.Native.Nat.{ℕ, ◌+◌}
use native.Mathlib.Omega.{arith}
use Rattle.engine.proofs.Places.{following-is}
use Rattle.engine.proofs.insert.following.Goals as goal

pub overflow_add-k : goal.overflow_add-k
overflow_add-k c = omega (arith, c.requires.inside)

pub overflow_add-result : goal.overflow_add-result
overflow_add-result c = omega (arith, c.requires.inside)

pub overflow_add-result-then-k-arc : goal.overflow_add-result-then-k-arc
overflow_add-result-then-k-arc c = omega (arith, c.requires.room, c.requires.inside)

pub returns-then-k-arc : goal.returns-then-k-arc
returns-then-k-arc c =
    let a = c.args in
    ap (λ (j : ℕ). a.arc.lo + j) (sym (following-is a.arc.n a.k (lt-ltb (a.k + 1) a.arc.n c.if-k-arc.true)))

pub returns-else-k-arc : goal.returns-else-k-arc
returns-else-k-arc c =
    let a = c.args in
    let none : a.arc.lo ≡ a.arc.lo + 0 = omega arith in
    none ∙ ap (λ (j : ℕ). a.arc.lo + j) (sym (following-is a.arc.n a.k (le-ltb (a.k + 1) a.arc.n c.if-k-arc.false)))
