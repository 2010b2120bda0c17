-- Cause 16 in words: the test of the objectives' bytes is what the request says.
use Prim.Native.Nat.{ℕ, zero, suc, ◌+◌, ◌-◌, ◌*◌, ◌/◌, ◌%◌, ◌<◌}
use mathlib.Core.Path.{◌≡◌, refl, sym, ap, ◌∙◌}
use mathlib.Core.Bool.{Bool, true, false, not, ◌||◌, true≢false}
use mathlib.Core.List.{List}
use mathlib.Core.Logic.{◌⊎◌, inl, inr, ⊎_elim}
use native.Mathlib.Omega.{arith}
use borrow.Author.Tests.{ltb-true, ltb-false, eqb-false}
use lib.Dec.{eqb, ltb}
use lib.ListN.{length}
use lib.IntN.{pos, negsuc}
use mir.Syntax.{w16}
use mir.Val.{to_z, sel}
use Rattle.records.specs.Record.{is_least}
use Rattle.objectives.specs.Objectives.{half_at, objective_at, objectives_from, objectives_of, bad_length, is_bad, some_bad, bad_objectives}
use Rattle.objectives.specs.Causes.{WrongObjectives, short, long, uneven, p-least, q-least}
use Rattle.objectives.proofs.Sound.{whole-objectives, few-objectives, some-objectives, each-objective}

either : (a b : Bool) → (a || b) ≡ true → (a ≡ true) ⊎ (b ≡ true)
either true b e = inl refl
either false b e = inr e

not-true : (b : Bool) → not b ≡ true → b ≡ false
not-true true e = absurd (true≢false (sym e))
not-true false e = refl

-- sixteen bits below −32,767
least-is : (n : ℕ) → is_least (to_z w16 n) ≡ true → to_z w16 n ≡ negsuc 32767
least-is n = go (ltb n 32768) refl
  where
    go : (b : Bool) →
        ltb n 32768 ≡ b →
        is_least (sel b (pos n) (negsuc (65536 - suc n))) ≡ true →
        sel b (pos n) (negsuc (65536 - suc n)) ≡ negsuc 32767
    go true e h = absurd (true≢false (sym h))
    go false e h =
        let q : 65536 - suc n ≡ 32767 = omega (arith, ltb-false n 32768 e, ltb-true 32766 (65536 - suc n) h) in
        ap negsuc q

-- where one is out of its range, there is such a one
some_is : (s : List ℕ) (k n : ℕ) → some_bad (objectives_from s k n) ≡ true → (i : ℕ) × (i < k + n) × (is_bad (objective_at s i) ≡ true)
some_is s k zero e = absurd (true≢false (sym e))
some_is s k (suc n) e = go (is_bad (objective_at s k)) refl e (some_is s (suc k) n)
  where
    more : (k n i : ℕ) → i < suc k + n → i < k + suc n
    more k n i h = omega arith

    here : (k n : ℕ) → k < k + suc n
    here k n = omega arith

    go : (b : Bool) →
        is_bad (objective_at s k) ≡ b →
        elim b [ true ↦ true | false ↦ some_bad (objectives_from s (suc k) n) ] ≡ true →
        (some_bad (objectives_from s (suc k) n) ≡ true → (i : ℕ) × (i < suc k + n) × (is_bad (objective_at s i) ≡ true)) →
        (i : ℕ) × (i < k + suc n) × (is_bad (objective_at s i) ≡ true)
    go true q f later = (k, here k n, q)
    go false q f later = let x = later f in (x.0, more k n x.0 x.1, x.2)

pub bad-wrong : (s : List ℕ) → bad_objectives s ≡ true → WrongObjectives s
bad-wrong s e =
    ⊎_elim
    (λ l. ⊎_elim
    (λ m. ⊎_elim (λ a. short (ltb-true (length s) 4 a)) (λ b. long (ltb-true 128 (length s) b))
    (either (ltb (length s) 4) (ltb 128 (length s)) m))
    (λ u. uneven (eqb-false (length s % 4) 0 (not-true (eqb (length s % 4) 0) u)))
    (either (ltb (length s) 4 || ltb 128 (length s)) (not (eqb (length s % 4) 0)) l))
    (λ b. one (some_is s 0 (length s / 4) b))
    (either (bad_length s) (some_bad (objectives_of s)) e)
  where
    plain : (n i : ℕ) → i < 0 + n → i < n
    plain n i h = omega arith

    one : (i : ℕ) × (i < 0 + length s / 4) × (is_bad (objective_at s i) ≡ true) → WrongObjectives s
    one (i, h, b) =
        ⊎_elim (λ p. p-least i (plain (length s / 4) i h) (least-is (half_at s (4 * i)) p))
        (λ q. q-least i (plain (length s / 4) i h) (least-is (half_at s (4 * i + 2)) q))
        (either (is_least (objective_at s i).p) (is_least (objective_at s i).q) b)

pub sound-right : (s : List ℕ) → bad_objectives s ≡ false → WrongObjectives s → ⊥
sound-right s e (short h) = let z : ⊥ = omega (arith, some-objectives s e) in z
sound-right s e (long h) = let z : ⊥ = omega (arith, few-objectives s e) in z
sound-right s e (uneven h) = h (omega (arith, whole-objectives s e))
sound-right s e (p-least i h q) = true≢false (sym (ap is_least q) ∙ (each-objective s e i h).0)
sound-right s e (q-least i h q) = true≢false (sym (ap is_least q) ∙ (each-objective s e i h).1)
