-- The answers as bytes: each has 32, they stand one after the other, and written one by one they are one copy.
use Prim.Native.Nat.{ℕ, zero, suc, ◌+◌, ◌*◌, ◌≤◌, ◌<◌}
use mathlib.Core.Path.{◌≡◌, refl, sym, ap, ap₂, ◌∙◌}
use mathlib.Core.Bool.{cond}
use mathlib.Core.List.{List, [], ◌∷◌, ◌++◌}
use native.Mathlib.Omega.{arith}
use borrow.Author.Tests.{le-leb}
use lib.ListN.{length, take, drop, length-append}
use lib.IntN.{pos}
use lib.Seq.{paste, take_at, take_all, take-take, drop-append-add}
use Rattle.lp.specs.declared.Constraint.{Constraint}
use Rattle.lp.specs.declared.Functional.{Functional}
use Rattle.lp.specs.declared.Floors.{Floors}
use Rattle.lp.specs.declared.Point.{Point}
use Rattle.lp.specs.Program.{point}
use Rattle.cells.specs.Cells.{unsigned_cell, point_bytes, answer_bytes, stored}
use Rattle.cells.proofs.Written.{length-cell, length-point}
use Rattle.repacker.proofs.Packed.{paste-next}
use Rattle.offering.specs.declared.offers.Offer.{Offer}
use Rattle.offering.specs.declared.offers.Offer.TheVariants.{Best, Unlimited, Impossible}
use Rattle.objectives.specs.Objectives.{objective_at, objectives_from}
use Rattle.offering.specs.Offers.{offer_bytes, offer_for, answers_for}
use Rattle.offering.specs.Listed.{answers_by}

length-answer : (n : ℕ) (v : Point) → length (answer_bytes n v) ≡ 32
length-answer n v = length-append (unsigned_cell n) (point_bytes v) ∙ (λ i. length-cell n i + length-point v i)

pub length-offer : (o : Offer) → length (offer_bytes o) ≡ 32
length-offer (Best v) = length-answer 1 v
length-offer (Unlimited v) = length-answer 2 v
length-offer Impossible = length-answer 3 (point (pos 0) (pos 0) (pos 0))

pub length-objectives : (s : List ℕ) (k n : ℕ) → length (objectives_from s k n) ≡ n
length-objectives s k zero = refl
length-objectives s k (suc n) = ap suc (length-objectives s (suc k) n)

-- ---- the answers, where each objective is answered in some way

module _ (answer : Functional → Offer) where
  length-by : (fs : List Functional) → length (answers_by answer fs) ≡ 32 * length fs
  unfolding answers_by
  length-by [] = refl
  length-by (f ∷ fs) = length-append (offer_bytes (answer f)) (answers_by answer fs) ∙ omega (arith, length-offer (answer f), length-by fs)

  module _ (s : List ℕ) where
    answer-from : (k n i : ℕ) →
        i < n →
        take 32 (drop (32 * i) (answers_by answer (objectives_from s k n))) ≡ offer_bytes (answer (objective_at s (k + i)))
    unfolding answers_by
    answer-from k zero i h = absurd (let z : ⊥ = omega arith in z)
    answer-from k (suc n) zero h =
        take_at (offer_bytes (answer (objective_at s k))) (answers_by answer (objectives_from s (suc k) n)) 32
        (length-offer (answer (objective_at s k)))
        ∙ ap (λ (m : ℕ). offer_bytes (answer (objective_at s m))) (here k)
      where
        here : (k : ℕ) → k ≡ k + 0
        here k = omega arith
    answer-from k (suc n) (suc i) h =
        let A = offer_bytes (answer (objective_at s k)) in
        let B = answers_by answer (objectives_from s (suc k) n) in
        let e : 32 * suc i ≡ length A + 32 * i = omega (arith, length-offer (answer (objective_at s k))) in
        let f : suc k + i ≡ k + suc i = omega arith in
        ap (λ (m : ℕ). take 32 (drop m (A ++ B))) e
        ∙ ap (take 32) (drop-append-add A B (32 * i))
        ∙ answer-from (suc k) n i (omega arith)
        ∙ ap (λ (m : ℕ). offer_bytes (answer (objective_at s m))) f

    -- the answer at i is that of the objective at i
    by-at : (n i : ℕ) →
        i < n →
        take 32 (drop (32 * i) (answers_by answer (objectives_from s 0 n))) ≡ offer_bytes (answer (objective_at s i))
    by-at n i h = answer-from 0 n i h ∙ ap (λ (m : ℕ). offer_bytes (answer (objective_at s m))) (plain i)
      where
        plain : (i : ℕ) → 0 + i ≡ i
        plain i = omega arith

    -- one more
    module _ (out : List ℕ) (n i : ℕ) (h : i < n) (room : 32 * n ≤ length out) where
      abbrev all : List ℕ
      all = answers_by answer (objectives_from s 0 n)

      pub one_more : {before after : List ℕ} {o : Offer} →
          before ≡ paste out 0 all (32 * i) →
          length before ≡ length out →
          o ≡ answer (objective_at s i) →
          after ≡ stored before (32 * i) 32 (offer_bytes o) →
          after ≡ paste out 0 all (32 * (i + 1))
      one_more {before} {after} {o} eb el eo ea =
          let next : 32 * i + 32 ≡ 32 * (i + 1) = omega arith in
          let zero : 32 * i ≡ 0 + 32 * i = omega arith in
          let fits : 32 * i + 32 ≤ length before = omega arith in
          let few : 32 * i ≤ length all = omega (arith, length-by (objectives_from s 0 n), length-objectives s 0 n) in
          let same : take 32 (offer_bytes o) ≡ take 32 (drop (32 * i) all) =
          ap (λ (x : Offer). take 32 (offer_bytes x)) eo
          ∙ ap (take 32) (sym (by-at n i h))
          ∙ take-take 32 32 (drop (32 * i) all) (omega arith) in
          ea
          ∙ ap (λ b. cond b (paste before (32 * i) (offer_bytes o) 32) before) (le-leb (32 * i + 32) (length before) fits)
          ∙ ap₂ (λ l (m : ℕ). paste l m (offer_bytes o) 32) eb zero
          ∙ paste-next out all (offer_bytes o) 0 (32 * i) 32 (omega arith) few same
          ∙ ap (paste out 0 all) next

    -- all of them
    pub all-written : (out : List ℕ) (n : ℕ) →
        paste out 0 (answers_by answer (objectives_from s 0 n)) (32 * n)
        ≡ answers_by answer (objectives_from s 0 n) ++ drop (32 * n) out
    all-written out n =
        let zero : 0 + 32 * n ≡ 32 * n = omega arith in
        ap (λ (m : ℕ). take (32 * n) (answers_by answer (objectives_from s 0 n)) ++ drop m out) zero
        ∙ ap (λ l. l ++ drop (32 * n) out)
        (take_all (32 * n) (answers_by answer (objectives_from s 0 n))
        (omega (arith, length-by (objectives_from s 0 n), length-objectives s 0 n)))

-- ---- as a plan answers them

-- what answers each objective as a plan does gives the plans' answers
pub answers-planned : (answer : Functional → Offer) (floors : Floors) (rules : List Constraint) →
    ((f : Functional) → answer f ≡ offer_for floors rules f) →
    (fs : List Functional) →
    answers_by answer fs ≡ answers_for floors rules fs
unfolding answers_by answers_for
answers-planned answer floors rules same [] = refl
answers-planned answer floors rules same (f ∷ fs) =
    λ i. offer_bytes (same f i) ++ answers-planned answer floors rules same fs i

module _ (floors : Floors) (rules : List Constraint) where
  planned : (fs : List Functional) → answers_by (offer_for floors rules) fs ≡ answers_for floors rules fs
  planned = answers-planned (offer_for floors rules) floors rules (λ f. refl)

  pub length-answers : (fs : List Functional) → length (answers_for floors rules fs) ≡ 32 * length fs
  length-answers fs = ap length (sym (planned fs)) ∙ length-by (offer_for floors rules) fs

  pub answer_at : (s : List ℕ) (n i : ℕ) →
      i < n →
      take 32 (drop (32 * i) (answers_for floors rules (objectives_from s 0 n))) ≡ offer_bytes (offer_for floors rules (objective_at s i))
  answer_at s n i h =
      ap (λ (l : List ℕ). take 32 (drop (32 * i) l)) (sym (planned (objectives_from s 0 n))) ∙ by-at (offer_for floors rules) s n i h
