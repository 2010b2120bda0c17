-- Objectives one after the other: whether one is out of its range, and that those that are not turned back are all within it.
use Prim.Native.Nat.{ℕ, zero, suc, ◌+◌, ◌-◌, ◌*◌, ◌/◌, ◌%◌, ◌≤◌, ◌<◌}
use mathlib.Core.Path.{◌≡◌, refl, sym, ap, ◌∙◌}
use mathlib.Core.Bool.{Bool, true, false, cond, not, ◌||◌, true≢false}
use mathlib.Core.List.{List, ◌∷◌}
use native.Mathlib.Omega.{arith}
use native.Mathlib.Numerals.{add-one}
use borrow.Author.Tests.{lt-ltb, ltb-true, ltb-false, eqb-true}
use lib.Dec.{eqb, ltb}
use lib.ListN.{length}
use lib.IntN.{pos, negsuc, nat_abs}
use mir.Syntax.{w16}
use mir.Val.{to_z, sel}
use Rattle.lp.specs.Program.{functional}
use Rattle.lp.specs.Range.{SmallFunctional}
use Rattle.records.specs.Record.{is_least}
use Rattle.objectives.specs.Objectives.{half_at, objective_at, objective_in, objectives_from, objectives_of}
use Rattle.objectives.specs.Objectives.{bad_length, is_bad, some_bad, bad_objectives}

-- ---- tests joined by or

or_left : (a b : Bool) → (a || b) ≡ false → a ≡ false
or_left true b e = absurd (true≢false e)
or_left false b e = refl

or_right : (a b : Bool) → (a || b) ≡ false → b ≡ false
or_right true b e = absurd (true≢false e)
or_right false b e = e

not-false : (b : Bool) → not b ≡ false → b ≡ true
not-false true e = refl
not-false false e = absurd (true≢false e)

-- ---- the pass over them

module _ (s : List ℕ) (i n : ℕ) (h : i < n) where
  next : objectives_from s i (n - i) ≡ objective_at s i ∷ objectives_from s (i + 1) (n - (i + 1))
  next =
      let more : n - i ≡ suc (n - (i + 1)) = omega arith in
      ap (objectives_from s i) more ∙ ap (λ (k : ℕ). objective_at s i ∷ objectives_from s k (n - (i + 1))) (sym (add-one i))

  pub bad-later : is_bad (objective_at s i) ≡ false →
      some_bad (objectives_from s i (n - i)) ≡ some_bad (objectives_from s (i + 1) (n - (i + 1)))
  bad-later e = ap some_bad next ∙ ap (λ (b : Bool). elim b [ true ↦ true | false ↦ some_bad (objectives_from s (i + 1) (n - (i + 1))) ]) e

-- one that is there is read
pub objective-there : (s : List ℕ) (i : ℕ) → i < length s / 4 → objective_in s i ≡ objective_at s i
objective-there s i h =
    ap (λ b. cond b (objective_at s i) (functional (pos 0) (pos 0))) (lt-ltb i (length s / 4) h)

-- ---- those that are not turned back

-- sixteen bits other than −32,768
sixteen : (n : ℕ) → is_least (to_z w16 n) ≡ false → nat_abs (to_z w16 n) ≤ 32767
sixteen n = go (ltb n 32768) refl
  where
    go : (b : Bool) →
        ltb n 32768 ≡ b →
        is_least (sel b (pos n) (negsuc (65536 - suc n))) ≡ false →
        nat_abs (sel b (pos n) (negsuc (65536 - suc n))) ≤ 32767
    go true e h = omega (arith, ltb-true n 32768 e)
    go false e h = omega (arith, ltb-false 32766 (65536 - suc n) h)

sound-small : (s : List ℕ) (i : ℕ) → is_bad (objective_at s i) ≡ false → SmallFunctional (objective_at s i)
sound-small s i e =
    record {
      p-small = record { small = sixteen (half_at s (4 * i)) (or_left (is_least (objective_at s i).p) (is_least (objective_at s i).q) e) };
      q-small =
          record { small = sixteen (half_at s (4 * i + 2)) (or_right (is_least (objective_at s i).p) (is_least (objective_at s i).q) e) };
    }

each-sound : (s : List ℕ) (k n i : ℕ) → i < n → some_bad (objectives_from s k n) ≡ false → is_bad (objective_at s (k + i)) ≡ false
each-sound s k zero i h e = absurd (let z : ⊥ = omega arith in z)
each-sound s k (suc n) zero h e = ap (λ (m : ℕ). is_bad (objective_at s m)) (here k) ∙ first (is_bad (objective_at s k)) e
  where
    here : (k : ℕ) → k + 0 ≡ k
    here k = omega arith

    first : (b : Bool) → elim b [ true ↦ true | false ↦ some_bad (objectives_from s (suc k) n) ] ≡ false → b ≡ false
    first true f = absurd (true≢false f)
    first false f = refl
each-sound s k (suc n) (suc i) h e =
    ap (λ (m : ℕ). is_bad (objective_at s m)) (shift k i) ∙ each-sound s (suc k) n i (omega arith) (rest (is_bad (objective_at s k)) e)
  where
    shift : (k i : ℕ) → k + suc i ≡ suc k + i
    shift k i = omega arith

    rest : (b : Bool) →
        elim b [ true ↦ true | false ↦ some_bad (objectives_from s (suc k) n) ] ≡ false →
        some_bad (objectives_from s (suc k) n) ≡ false
    rest true f = absurd (true≢false f)
    rest false f = f

module _ (s : List ℕ) (sound : bad_objectives s ≡ false) where
  long : bad_length s ≡ false
  long = or_left (bad_length s) (some_bad (objectives_of s)) sound

  sound-at : (i : ℕ) → i < length s / 4 → is_bad (objective_at s i) ≡ false
  sound-at i h =
      ap (λ (m : ℕ). is_bad (objective_at s m)) (sym (plain i))
      ∙ each-sound s 0 (length s / 4) i h (or_right (bad_length s) (some_bad (objectives_of s)) sound)
    where
      plain : (i : ℕ) → 0 + i ≡ i
      plain i = omega arith

  -- each is within its range
  pub objective-small : (i : ℕ) → i < length s / 4 → SmallFunctional (objective_at s i)
  objective-small i h = sound-small s i (sound-at i h)

  pub each-objective : (i : ℕ) → i < length s / 4 → (is_least (objective_at s i).p ≡ false) × (is_least (objective_at s i).q ≡ false)
  each-objective i h = (
    or_left (is_least (objective_at s i).p) (is_least (objective_at s i).q) (sound-at i h),
    or_right (is_least (objective_at s i).p) (is_least (objective_at s i).q) (sound-at i h),
  )

  -- and no byte is left over
  pub whole-objectives : 4 * (length s / 4) ≡ length s
  whole-objectives =
      let rest = eqb-true (length s % 4) 0 (not-false (eqb (length s % 4) 0)
      (or_right (ltb (length s) 4 || ltb 128 (length s)) (not (eqb (length s % 4) 0)) long)) in
      omega (arith, rest)

  pub some-objectives : 4 ≤ length s
  some-objectives =
      ltb-false (length s) 4 (or_left (ltb (length s) 4) (ltb 128 (length s))
      (or_left (ltb (length s) 4 || ltb 128 (length s)) (not (eqb (length s % 4) 0)) long))

  pub few-objectives : length s ≤ 128
  few-objectives =
      ltb-false 128 (length s) (or_right (ltb (length s) 4) (ltb 128 (length s))
      (or_left (ltb (length s) 4 || ltb 128 (length s)) (not (eqb (length s % 4) 0)) long))
