-- The place of a constraint in the ring, seen from the point in which its line meets that of the size. The determinant of three lines stays
-- when they are turned round in a circle, so that the turns to the constraint and from it are the slacks of the edges at that point. And
-- the edge that follows another.
use mathlib.Core.Path.{◌≡◌, refl, sym, ◌∙◌, ap}
use mathlib.Core.List.{List, [], ◌∷◌}
use mathlib.Core.Bool.{Bool, true, false, ◌&&◌}
use Prim.Native.Nat.{ℕ, zero, suc, ◌+◌, ◌≤◌, ◌<◌}
use native.Mathlib.Omega.{arith}
use borrow.Author.Tests.{le-leb, lt-leb, lt-ltb, le-ltb}
use lib.Dec.{ltb}
use lib.IntN.{ℤ, pos, negsuc, neg_ℤ}
use lib.Signed.{le_z}
use Rattle.ints.proofs.Ring.{⊝◌, ◌≐◌}
use Rattle.lp.specs.declared.Constraint.{Constraint}
use Rattle.lp.specs.declared.Point.{Point}
use Rattle.lp.specs.Program.{slack}
use Rattle.lp.specs.Outcome.{meet}
use Rattle.theory.proofs.Solver.{equal, C, slackᵖ, meetᵖ}
use Rattle.boundary.specs.Size.{turn}
use Rattle.boundary.specs.Ring.{at_place}
use Rattle.engine.specs.Row.{edge, following, is_between}
use Rattle.engine.specs.Rings.{Sought}

turn-to : (D k h : Constraint) → turn D k h ≡ slack k (meet h D)
turn-to = equal (C ∷ C ∷ C ∷ []) (λ D k h. slackᵖ D (meetᵖ k h) ≐ slackᵖ k (meetᵖ h D)) refl

turn-from : (D h e : Constraint) → turn D h e ≡ neg_ℤ (slack e (meet h D))
turn-from = equal (C ∷ C ∷ C ∷ []) (λ D h e. slackᵖ D (meetᵖ h e) ≐ ⊝ slackᵖ e (meetᵖ h D)) refl

opposite-test : (z : ℤ) → le_z (pos 0) (neg_ℤ z) ≡ le_z z (pos 0)
opposite-test (pos zero) = refl
opposite-test (pos (suc n)) = sym (lt-leb (suc n) 0 (omega arith))
opposite-test (negsuc n) = le-leb 0 (suc n) (omega arith)

pub place_is : (D h k e : Constraint) → at_place D h k e ≡ is_between (meet h D) k e
place_is D h k e =
    λ i. le_z (pos 0) (turn-to D k h i) && (ap (le_z (pos 0)) (turn-from D h e) ∙ opposite-test (slack e (meet h D))) i

-- ---- the edge that follows

pub following-is : (n k : ℕ) {b : Bool} → ltb (k + 1) n ≡ b → following n k ≡ elim b [ true ↦ k + 1 | false ↦ 0 ]
following-is n k e = ap (λ b. elim b [ true ↦ k + 1 | false ↦ 0 ]) e

-- ---- what the search hands back

module _ {e : List ℤ} {run : List ℕ} {w : Point} {lo n : ℕ} where
  -- between two edges inside the ring
  pub sought-inner : {k : ℕ} → k + 1 < n → is_between w (edge e run (lo + k)) (edge e run (lo + k + 1)) ≡ true → Sought e run w lo n k
  sought-inner {k} b so =
      record {
        inside = omega arith;
        between =
            ap (λ (j : ℕ). is_between w (edge e run (lo + k)) (edge e run (lo + j))) (following-is n k (lt-ltb (k + 1) n b))
            ∙ ap (λ (q : ℕ). is_between w (edge e run (lo + k)) (edge e run q)) here
            ∙ so;
      }
    where
      here : lo + (k + 1) ≡ lo + k + 1
      here = omega arith

  -- between the first edge and the second
  pub sought-first : 2 ≤ n → is_between w (edge e run lo) (edge e run (lo + 1)) ≡ true → Sought e run w lo n 0
  sought-first b so = sought-inner (omega arith) (ap (λ (p : ℕ). is_between w (edge e run p) (edge e run (p + 1))) none ∙ so)
    where
      none : lo + 0 ≡ lo
      none = omega arith

  -- between the last edge and the first
  pub sought-last :
      {k : ℕ} →
      k < n →
      n ≤ k + 1 →
      is_between w (edge e run (lo + k)) (edge e run lo) ≡ true →
      Sought e run w lo n k
  sought-last {k} inside b so =
      record {
        inside = inside;
        between =
            ap (λ (j : ℕ). is_between w (edge e run (lo + k)) (edge e run (lo + j))) (following-is n k (le-ltb (k + 1) n b))
            ∙ ap (λ (q : ℕ). is_between w (edge e run (lo + k)) (edge e run q)) here
            ∙ so;
      }
    where
      here : lo + 0 ≡ lo
      here = omega arith
