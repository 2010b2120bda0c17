-- Rows of edges by position, for code that holds a ring in a run: `row g i n` is the n edges at positions i, i + 1, .. of g. What is
-- dropped from the front moves the first position up, what is dropped from the back moves the last one down, and a turn of the ring
-- writes its first edge behind its last. The edge at which the ring begins stands last in the run, so that nothing is ever moved.
use mathlib.Core.Path.{◌≡◌, refl, sym, ◌∙◌, ap, ap₂}
use mathlib.Core.List.{List, [], ◌∷◌, ◌++◌}
use mathlib.Core.Bool.{Bool, true, false}
use Prim.Native.Nat.{ℕ, zero, suc, ◌+◌, ◌<◌, ◌≤◌}
use native.Mathlib.Nat.{add-zero}
use native.Mathlib.Omega.{arith}
use Rattle.lp.specs.declared.Constraint.{Constraint}
use Rattle.boundary.specs.Ring.{keeps_at, front, joined, back}
use Rattle.boundary.specs.Quick.{last_of}

-- ---- from the back, one edge at a time

module _ (h : Constraint) where
  -- where the last corner is kept, nothing is dropped
  pub back-kept :
      (p : Constraint) (l : List Constraint) (z : Constraint) →
      keeps_at h (last_of p l) z ≡ true →
      back h p (l ++ (z ∷ [])) ≡ p ∷ l ++ (z ∷ [])
  back-kept p [] z e = ap (λ b. joined p b (z ∷ [])) e
  back-kept p (q ∷ l) z e = ap (joined p (keeps_at h p q)) (back-kept q l z e) ∙ whole (keeps_at h p q) l
    where
      whole : (b : Bool) (m : List Constraint) → joined p b (q ∷ m ++ (z ∷ [])) ≡ p ∷ q ∷ m ++ (z ∷ [])
      whole true m = refl
      whole false [] = refl
      whole false (r ∷ m) = refl

  -- where it is broken, the last edge is dropped, and the rest goes on
  pub back_dropped :
      (p : Constraint) (l : List Constraint) (z : Constraint) →
      keeps_at h (last_of p l) z ≡ false →
      back h p (l ++ (z ∷ [])) ≡ back h p l
  back_dropped p [] z e = ap (λ b. joined p b (z ∷ [])) e
  back_dropped p (q ∷ l) z e = ap (joined p (keeps_at h p q)) (back_dropped q l z e)

  pub front_kept : (p q : Constraint) (l : List Constraint) → keeps_at h p q ≡ true → front h p (q ∷ l) ≡ p ∷ q ∷ l
  front_kept p q l e = ap {B = List Constraint} (λ b. elim b [ true ↦ p ∷ q ∷ l | false ↦ front h q l ]) e

  pub front_dropped : (p q : Constraint) (l : List Constraint) → keeps_at h p q ≡ false → front h p (q ∷ l) ≡ front h q l
  front_dropped p q l e = ap {B = List Constraint} (λ b. elim b [ true ↦ p ∷ q ∷ l | false ↦ front h q l ]) e

-- ---- rows by position

abbrev pub row : (ℕ → Constraint) → ℕ → ℕ → List Constraint
row g i zero = []
row g i (suc n) = g i ∷ row g (suc i) n

-- a row of one edge more ends with the edge at the next position
pub row_on : (g : ℕ → Constraint) (i n : ℕ) → row g i (suc n) ≡ row g i n ++ (g (i + n) ∷ [])
row_on g i zero = ap (λ j. g j ∷ []) (sym (add-zero i))
row_on g i (suc n) = ap (λ l. g i ∷ l) (row_on g (suc i) n ∙ ap (λ j. row g (suc i) n ++ (g j ∷ [])) (shift i n))
  where
    shift : (i n : ℕ) → suc i + n ≡ i + suc n
    shift i n = omega arith

pub row_last : (g : ℕ → Constraint) (i n : ℕ) → last_of (g i) (row g (suc i) n) ≡ g (i + n)
row_last g i zero = ap g (sym (add-zero i))
row_last g i (suc n) = row_last g (suc i) n ∙ ap g (shift i n)
  where
    shift : (i n : ℕ) → suc i + n ≡ i + suc n
    shift i n = omega arith

-- two runs that agree at the positions of a row
pub row-agrees : (g g' : ℕ → Constraint) (i n : ℕ) → ((j : ℕ) → i ≤ j → j < i + n → g j ≡ g' j) → row g i n ≡ row g' i n
row-agrees g g' i zero same = refl
row-agrees g g' i (suc n) same = ap₂ (λ x l. x ∷ l) (same i (omega arith) (omega arith)) (row-agrees g g' (suc i) n later)
  where
    later : (j : ℕ) → suc i ≤ j → j < suc i + n → g j ≡ g' j
    later j a b = same j (omega arith) (omega arith)

-- the ring whose first edge stands last, at position i + n
abbrev pub ring_at : (ℕ → Constraint) → ℕ → ℕ → List Constraint
ring_at g i n = g (i + n) ∷ row g i n

module _ (h : Constraint) (g : ℕ → Constraint) where
  -- dropping from the front
  pub front-step :
      (i n : ℕ) →
      keeps_at h (g i) (g (suc i)) ≡ false →
      front h (g i) (row g (suc i) (suc n)) ≡ front h (g (suc i)) (row g (suc (suc i)) n)
  front-step i n e = front_dropped h (g i) (g (suc i)) (row g (suc (suc i)) n) e

  pub front-stop :
      (i n : ℕ) →
      keeps_at h (g i) (g (suc i)) ≡ true →
      front h (g i) (row g (suc i) (suc n)) ≡ row g i (suc (suc n))
  front-stop i n e = front_kept h (g i) (g (suc i)) (row g (suc (suc i)) n) e

  -- dropping from the back: the last corner is that of positions i + n and i + suc n
  back-row : (i n : ℕ) → row g (suc i) (suc n) ≡ row g (suc i) n ++ (g (i + suc n) ∷ [])
  back-row i n = row_on g (suc i) n ∙ ap (λ j. row g (suc i) n ++ (g j ∷ [])) (shift i n)
    where
      shift : (i n : ℕ) → suc i + n ≡ i + suc n
      shift i n = omega arith

  last-test :
      (i n : ℕ) (b : Bool) →
      keeps_at h (g (i + n)) (g (i + suc n)) ≡ b →
      keeps_at h (last_of (g i) (row g (suc i) n)) (g (i + suc n)) ≡ b
  last-test i n b e = ap (λ z. keeps_at h z (g (i + suc n))) (row_last g i n) ∙ e

  pub back_step :
      (i n : ℕ) →
      keeps_at h (g (i + n)) (g (i + suc n)) ≡ false →
      back h (g i) (row g (suc i) (suc n)) ≡ back h (g i) (row g (suc i) n)
  back_step i n e =
      ap (back h (g i)) (back-row i n) ∙ back_dropped h (g i) (row g (suc i) n) (g (i + suc n)) (last-test i n false e)

  pub back-stop :
      (i n : ℕ) →
      keeps_at h (g (i + n)) (g (i + suc n)) ≡ true →
      back h (g i) (row g (suc i) (suc n)) ≡ row g i (suc (suc n))
  back-stop i n e =
      ap (back h (g i)) (back-row i n)
      ∙ back-kept h (g i) (row g (suc i) n) (g (i + suc n)) (last-test i n true e)
      ∙ ap (λ l. g i ∷ l) (sym (back-row i n))

-- a turn: the run g' is g with its edge at i written at i + suc (suc n)
pub ring-turned :
    (g g' : ℕ → Constraint) (i n : ℕ) →
    ((j : ℕ) → i ≤ j → j < i + suc (suc n) → g j ≡ g' j) →
    g' (i + suc (suc n)) ≡ g i →
    ring_at g' (suc i) (suc n) ≡ g i ∷ row g (suc i) n ++ (g (i + suc n) ∷ [])
ring-turned g g' i n same written =
    ap₂ (λ x l. x ∷ l) (ap g' (shift i n) ∙ written)
    (sym (row-agrees g g' (suc i) (suc n) later) ∙ row_on g (suc i) n ∙ ap (λ j. row g (suc i) n ++ (g j ∷ [])) (shift' i n))
  where
    shift : (i n : ℕ) → suc i + suc n ≡ i + suc (suc n)
    shift i n = omega arith

    shift' : (i n : ℕ) → suc i + n ≡ i + suc n
    shift' i n = omega arith

    later : (j : ℕ) → suc i ≤ j → j < suc i + suc n → g j ≡ g' j
    later j a b = same j (omega arith) (omega arith)
