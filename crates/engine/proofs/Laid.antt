-- Entries put into a run: what stands at each entry afterwards, and what a run with the floors laid holds.
use mathlib.Core.Path.{◌≡◌, refl, sym, ◌∙◌, ap, ap₂}
use mathlib.Core.List.{List, ◌∷◌}
use mathlib.Core.Bool.{Bool, true, false, cond, ◌&&◌}
use Prim.Native.Nat.{ℕ, zero, suc, ◌+◌, ◌*◌, ◌≤◌, ◌<◌}
use native.Mathlib.Omega.{arith}
use lib.ListN.{length, get_or, set, length-set}
use lib.Seq.{get_or-set_same, get_or-set_other}
use lib.Dec.{leb}
use lib.IntN.{ℤ, pos}
use borrow.Author.Tests.{leb-true}
use Rattle.lp.specs.declared.Constraint.{Constraint}
use Rattle.lp.specs.declared.Floors.{Floors}
use Rattle.lp.specs.Program.{floor_x, floor_y}
pub use Rattle.flooring.specs.Floors.{laid}
use Rattle.flooring.specs.Floors.{put_entry, Lays}
use Rattle.engine.specs.Entries.{entry, entries}
use Rattle.amounts.specs.Tests.{floors_in_range}
use Rattle.amounts.proofs.Tests.{both}

pub put-length : (l : List ℤ) (k : ℕ) (c : Constraint) → length (put_entry l k c) ≡ length l
put-length l k c = simp length-set

-- ---- what stands at each entry

at_set : (l : List ℤ) (i j : ℕ) (v : ℤ) → (j ≡ i → ⊥) → get_or (set l i v) j (pos 0) ≡ get_or l j (pos 0)
at_set l i j v other = get_or-set_other l i j v (pos 0) other

-- the three numbers of an entry, and those of another
module _ (l : List ℤ) (k : ℕ) (c : Constraint) where
  pub put_same : 3 * k + 2 < length l → entry (put_entry l k c) k ≡ c
  put_same room = λ i. record { a = first i; b = second i; c = third i }
    where
      first : get_or (put_entry l k c) (3 * k) (pos 0) ≡ c.a
      first =
          at_set (set (set l (3 * k) c.a) (3 * k + 1) c.b) (3 * k + 2) (3 * k) c.c (λ e. omega arith)
          ∙ at_set (set l (3 * k) c.a) (3 * k + 1) (3 * k) c.b (λ e. omega arith)
          ∙ get_or-set_same l (3 * k) c.a (pos 0) (omega arith)

      second : get_or (put_entry l k c) (3 * k + 1) (pos 0) ≡ c.b
      second =
          at_set (set (set l (3 * k) c.a) (3 * k + 1) c.b) (3 * k + 2) (3 * k + 1) c.c (λ e. omega arith)
          ∙ get_or-set_same (set l (3 * k) c.a) (3 * k + 1) c.b (pos 0) (simp length-set (omega arith))

      third : get_or (put_entry l k c) (3 * k + 2) (pos 0) ≡ c.c
      third = get_or-set_same (set (set l (3 * k) c.a) (3 * k + 1) c.b) (3 * k + 2) c.c (pos 0) (simp length-set (omega arith))

  -- a place of another entry
  put-away :
      (p : ℕ) →
      (p ≡ 3 * k → ⊥) →
      (p ≡ 3 * k + 1 → ⊥) →
      (p ≡ 3 * k + 2 → ⊥) →
      get_or (put_entry l k c) p (pos 0) ≡ get_or l p (pos 0)
  put-away p a b d =
      at_set (set (set l (3 * k) c.a) (3 * k + 1) c.b) (3 * k + 2) p c.c d
      ∙ at_set (set l (3 * k) c.a) (3 * k + 1) p c.b b
      ∙ at_set l (3 * k) p c.a a

  pub put_other : (j : ℕ) → (j ≡ k → ⊥) → entry (put_entry l k c) j ≡ entry l j
  put_other j other = λ i. record { a = first i; b = second i; c = third i }
    where
      first : get_or (put_entry l k c) (3 * j) (pos 0) ≡ get_or l (3 * j) (pos 0)
      first = put-away (3 * j) (λ e. other (omega arith)) (λ e. other (omega arith)) (λ e. other (omega arith))

      second : get_or (put_entry l k c) (3 * j + 1) (pos 0) ≡ get_or l (3 * j + 1) (pos 0)
      second = put-away (3 * j + 1) (λ e. other (omega arith)) (λ e. other (omega arith)) (λ e. other (omega arith))

      third : get_or (put_entry l k c) (3 * j + 2) (pos 0) ≡ get_or l (3 * j + 2) (pos 0)
      third = put-away (3 * j + 2) (λ e. other (omega arith)) (λ e. other (omega arith)) (λ e. other (omega arith))

-- ---- the floors

module _ (f : Floors) (l : List ℤ) where
  pub laid-length : length (laid f l) ≡ length l
  laid-length = put-length (put_entry l 0 (floor_x f)) 1 (floor_y f) ∙ put-length l 0 (floor_x f)

  pub laid-x : 6 ≤ length l → entry (laid f l) 0 ≡ floor_x f
  laid-x room = put_other (put_entry l 0 (floor_x f)) 1 (floor_y f) 0 (λ e. omega arith) ∙ put_same l 0 (floor_x f) (omega arith)

  pub laid-y : 6 ≤ length l → entry (laid f l) 1 ≡ floor_y f
  laid-y room = put_same (put_entry l 0 (floor_x f)) 1 (floor_y f) (omega (arith, put-length l 0 (floor_x f)))

  -- the rules stay
  pub laid-rules : (i n : ℕ) → 2 ≤ i → entries (laid f l) i n ≡ entries l i n
  laid-rules i zero h = refl
  laid-rules i (suc n) h =
      ap₂ (λ (r : Constraint) (S : List Constraint). r ∷ S)
      (put_other (put_entry l 0 (floor_x f)) 1 (floor_y f) i (λ e. omega arith) ∙ put_other l 0 (floor_x f) i (λ e. omega arith))
      (laid-rules (suc i) n (omega arith))

  -- ---- what the promise of laying them says

  pub lays-length : {t : Bool} {after : List ℤ} → Lays f l t after → length after ≡ length l
  lays-length {t} h = ap length h.run ∙ go (leb 6 (length l) && floors_in_range f)
    where
      go : (s : Bool) → length (cond s (laid f l) l) ≡ length l
      go true = laid-length
      go false = refl

  module _ {t : Bool} {after : List ℤ} (h : Lays f l t after) (so : t ≡ true) where
    pub lays-laid : after ≡ laid f l
    lays-laid = h.run ∙ ap (λ s. cond s (laid f l) l) (sym h.told ∙ so)

    pub lays-tests : (leb 6 (length l) ≡ true) × (floors_in_range f ≡ true)
    lays-tests = both (leb 6 (length l)) (floors_in_range f) (sym h.told ∙ so)

    pub lays-six : 6 ≤ length after
    lays-six = omega (arith, lays-length h, leb-true 6 (length l) lays-tests.0)
