-- What is read of any bytes is a slip that a line can say, if it names three entries at most; and so the reader's answer is right.
use mathlib.Core.Path.{◌≡◌, refl, ap, sym, ◌∙◌, subst}
use mathlib.Core.Bool.{Bool, true, false, cond}
use mathlib.Core.List.{List}
use Prim.Native.Nat.{ℕ, ◌+◌, ◌≤◌}
use native.Mathlib.Omega.{arith}
use lib.Dec.{T, eqb, leb}
use lib.ListN.{drop, get_or}
use lib.IntN.{ℤ, pos, negsuc, neg_ℤ, ◌+ℤ◌}
use lib.Signed.{le_z, lt_z}
use borrow.Author.Tests.{leb-true, ltb-true, le-leb}
use Rattle.ints.proofs.Bits.{low}
use Rattle.lp.specs.declared.Outcome.{Outcome}
use Rattle.lp.specs.declared.Outcome.TheVariants.{Infeasible, Unbounded, Optimal}
use Rattle.slip.specs.declared.Weights.{Weights}
use Rattle.slip.specs.declared.Slip.{Slip}
use Rattle.slip.specs.Slots.{one, two, three}
use Rattle.slip.specs.Facts.{ranges}
use Rattle.slip_reader.specs.Fields.{size_from, greatest, signed_of, is_minus, digits_in, integer_in, past_field, record_code, code_in}
use Rattle.slip_reader.specs.Fields.{slot_code, slot_weight, past_slot, counted_of, weights_in, no_weights, point_in, past_pair}
use Rattle.slip_reader.specs.Fields.{best_in, unlimited_in, impossible_in, slip_in}
use Rattle.slip_reader.specs.Reading.{Slotted, Counted, Plain, Wide, WideWeights, WideOutcome, Stands, Says}
use Rattle.slip_reader.specs.Asked.{JudgesLine}
use Rattle.slip_reader.proofs.Lines.{says-read}

-- ---- numbers that were read have 64 bits

wide-small : (k : ℕ) → k ≤ 9223372036854775807 → Wide (pos k)
wide-small k h = record { sfits = omega arith }

signed-wide : (negative : Bool) (n : ℕ) → Wide (signed_of negative n)
signed-wide negative n = go (leb n greatest) refl negative
  where
    go : (t : Bool) →
        leb n greatest ≡ t →
        (u : Bool) →
        Wide (cond t (cond u (neg_ℤ (pos n)) (pos n)) (cond u (negsuc greatest) (pos greatest)))
    go true e true = low n (omega (arith, leb-true n greatest e))
    go true e false = wide-small n (leb-true n greatest e)
    go false e true = record { sfits = omega arith }
    go false e false = record { sfits = omega arith }

integer-wide : (l : List ℕ) → Wide (integer_in l)
unfolding integer_in
integer-wide l = signed-wide (is_minus (drop 1 l)) (size_from 0 (digits_in l))

record-wide : (z : ℤ) → Wide z → Wide (record_code z)
record-wide z w = go (le_z z (pos 0)) refl (lt_z z (pos greatest)) refl
  where
    risen : (y : ℤ) → le_z y (pos 0) ≡ false → lt_z y (pos greatest) ≡ true → Wide (y +ℤ pos 1)
    risen (pos n) e g = record { sfits = omega (arith, ltb-true n greatest g) }
    risen (negsuc n) e g = absurd (subst T e tt)

    go : (t : Bool) →
        le_z z (pos 0) ≡ t →
        (u : Bool) →
        lt_z z (pos greatest) ≡ u →
        Wide (elim t [ true ↦ pos 0 | false ↦ elim u [ true ↦ z +ℤ pos 1 | false ↦ z ] ])
    go true e u g = wide-small 0 (omega arith)
    go false e true g = risen z e g
    go false e false g = w

code-wide : (l : List ℕ) → Wide (code_in l)
unfolding code_in
code-wide l = go (eqb (get_or (drop 1 l) 0 0) 88) (eqb (get_or (drop 1 l) 0 0) 89)
  where
    go : (t u : Bool) → Wide (elim t [ true ↦ pos 0 | false ↦ elim u [ true ↦ pos 1 | false ↦ record_code (integer_in l) ] ])
    go true u = wide-small 0 (omega arith)
    go false true = wide-small 1 (omega arith)
    go false false = record-wide (integer_in l) (integer-wide l)

slot_code-wide : (t : Bool) (l : List ℕ) → Wide (slot_code t l)
unfolding slot_code
slot_code-wide true l = code-wide l
slot_code-wide false l = wide-small 0 (omega arith)

slot_weight-wide : (t : Bool) (l : List ℕ) → Wide (slot_weight t l)
unfolding slot_weight
slot_weight-wide true l = integer-wide (past_field l)
slot_weight-wide false l = wide-small 0 (omega arith)

module _ (scale k : ℤ) (l : List ℕ) where
  abbrev w : Weights
  w = counted_of scale k l

  counted-wide : Wide scale → Wide k → WideWeights w
  counted-wide f g =
      record {
        scale = f;
        count = g;
        first = slot_code-wide (one w) l;
        first-weight = slot_weight-wide (one w) l;
        second = slot_code-wide (two w) (past_slot (one w) l);
        second-weight = slot_weight-wide (two w) (past_slot (one w) l);
        third = slot_code-wide (three w) (past_slot (two w) (past_slot (one w) l));
        third-weight = slot_weight-wide (three w) (past_slot (two w) (past_slot (one w) l));
      }

weights-wide : (scale : ℤ) (l : List ℕ) → Wide scale → WideWeights (weights_in scale l)
unfolding weights_in
weights-wide scale l f = counted-wide scale (integer_in l) (past_field l) f (integer-wide l)

none-wide : WideWeights no_weights
none-wide =
    record {
      scale = wide-small 0 (omega arith);
      count = wide-small 0 (omega arith);
      first = wide-small 0 (omega arith);
      first-weight = wide-small 0 (omega arith);
      second = wide-small 0 (omega arith);
      second-weight = wide-small 0 (omega arith);
      third = wide-small 0 (omega arith);
      third-weight = wide-small 0 (omega arith);
    }

-- ---- what is read is plain

record-from : (z : ℤ) → le_z (pos 0) (record_code z) ≡ true
record-from z = go (le_z z (pos 0)) refl (lt_z z (pos greatest))
  where
    above : (y : ℤ) → le_z y (pos 0) ≡ false → (u : Bool) → le_z (pos 0) (elim u [ true ↦ y +ℤ pos 1 | false ↦ y ]) ≡ true
    above (pos n) e true = le-leb 0 (n + 1) (omega arith)
    above (pos n) e false = le-leb 0 n (omega arith)
    above (negsuc n) e u = absurd (subst T e tt)

    go : (t : Bool) →
        le_z z (pos 0) ≡ t →
        (u : Bool) →
        le_z (pos 0) (elim t [ true ↦ pos 0 | false ↦ elim u [ true ↦ z +ℤ pos 1 | false ↦ z ] ]) ≡ true
    go true e u = refl
    go false e u = above z e u

code-from : (l : List ℕ) → le_z (pos 0) (code_in l) ≡ true
unfolding code_in
code-from l = go (eqb (get_or (drop 1 l) 0 0) 88) (eqb (get_or (drop 1 l) 0 0) 89)
  where
    go : (t u : Bool) →
        le_z (pos 0) (elim t [ true ↦ pos 0 | false ↦ elim u [ true ↦ pos 1 | false ↦ record_code (integer_in l) ] ]) ≡ true
    go true u = refl
    go false true = refl
    go false false = record-from (integer_in l)

slot_plain : (t : Bool) (l : List ℕ) → Slotted t (slot_code t l) (slot_weight t l)
unfolding slot_code slot_weight
slot_plain true l = code-from l
slot_plain false l = (refl, refl)

weights-plain : (scale : ℤ) (l : List ℕ) → ranges (pos 0) (weights_in scale l).count (pos 3) ≡ true → Counted (weights_in scale l)
unfolding weights_in
weights-plain scale l h =
    let w = counted_of scale (integer_in l) (past_field l) in
    record {
      few = h;
      first = slot_plain (one w) (past_field l);
      second = slot_plain (two w) (past_slot (one w) (past_field l));
      third = slot_plain (three w) (past_slot (two w) (past_slot (one w) (past_field l)));
    }

abbrev Few : Slip → Type 0
Few s = ranges (pos 0) s.weights.count (pos 3) ≡ true

pub record Sound (s : Slip) : Type 0 where
  pub plain : Plain s.outcome s.weights
  pub wide-outcome : WideOutcome s.outcome
  pub wide-weights : WideWeights s.weights

scale-is : (scale : ℤ) (l : List ℕ) → (weights_in scale l).scale ≡ scale
unfolding weights_in
scale-is scale l = refl

point-wide : (l : List ℕ) → Wide (point_in l).x × Wide (point_in l).y × Wide (point_in l).d
unfolding point_in
point-wide l = (integer-wide l, integer-wide (past_field l), integer-wide (past_field (past_field l)))

pub slip-sound : (l : List ℕ) → Few (slip_in l) → Sound (slip_in l)
slip-sound l h = go (eqb (get_or l 0 0) 98) (eqb (get_or l 0 0) 117) h
  where
    go : (t u : Bool) →
        Few (elim t [ true ↦ best_in (drop 4 l) | false ↦ elim u [ true ↦ unlimited_in (drop 9 l) | false ↦ impossible_in (drop 10 l) ] ]) →
        Sound (elim t [ true ↦ best_in (drop 4 l) | false ↦ elim u [ true ↦ unlimited_in (drop 9 l) | false ↦ impossible_in (drop 10 l) ] ])
    go true u h =
        let m = drop 4 l in
        record {
          plain = weights-plain (integer_in (past_pair m)) (past_field (past_pair m)) h;
          wide-outcome = point-wide m;
          wide-weights = weights-wide (integer_in (past_pair m)) (past_field (past_pair m)) (integer-wide (past_pair m));
        }
    go false true h =
        let m = drop 9 l in
        let p = point-wide m in
        record {
          plain = refl;
          wide-outcome = (p.0, p.1, p.2, integer-wide (past_pair m), integer-wide (past_field (past_pair m)));
          wide-weights = none-wide;
        }
    go false false h =
        let m = drop 10 l in
        record {
          plain = (weights-plain (pos 0) m h, scale-is (pos 0) m);
          wide-outcome = tt;
          wide-weights = weights-wide (pos 0) m (wide-small 0 (omega arith));
        }

-- a plain slip names three entries at most
pub plain-few : (o : Outcome) (w : Weights) → Plain o w → ranges (pos 0) w.count (pos 3) ≡ true
plain-few (Optimal v) w p = p.few
plain-few (Unbounded v d) w p = ap (λ u. ranges (pos 0) u.count (pos 3)) p
plain-few Infeasible w p = p.0.few

-- ---- the line

module _ (l : List ℕ) (s : Slip) (parsed : s ≡ slip_in l) {r : Bool} (j : JudgesLine s l r) where
  pub given : r ≡ true → Says l s
  given e =
      let sound = subst Sound (sym parsed) (slip-sound l (subst Few parsed (j.few e))) in
      record {
        plain = sound.plain;
        wide-outcome = sound.wide-outcome;
        wide-weights = sound.wide-weights;
        stands = j.met e;
      }

  pub no_line : r ≡ false → (t : Slip) → Says l t → ⊥
  no_line e t h =
      let same : t ≡ s = sym (says-read l t h) ∙ sym parsed in
      j.unmet e (subst Few same (plain-few t.outcome t.weights h.plain)) (subst (λ u. Stands u l) same h.stands)
