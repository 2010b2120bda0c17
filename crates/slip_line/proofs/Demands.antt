-- The line that the slip program prints gets a yes from the checker of lines. A slip by value has numbers of 64 bits, which stands here as
-- a premise; everything else is what the planner promises of its slips.
use mathlib.Core.Path.{◌≡◌, refl, ap, sym, ◌∙◌, subst}
use mathlib.Core.Bool.{Bool, true, false, cond, ◌&&◌}
use mathlib.Core.List.{List, [], ◌∷◌}
use mathlib.Core.Logic.{inr}
use Prim.Native.Nat.{ℕ, ◌≤◌}
use native.Mathlib.Omega.{arith}
use lib.Dec.{T}
use lib.IntN.{ℤ, pos, negsuc}
use lib.Signed.{le_z, lt_z}
use borrow.Author.Tests.{le-leb, leb-true, le-ltb, ltb-false}
use Rattle.lp.specs.declared.Terms.{Terms}
use Rattle.lp.specs.declared.Constraint.{Constraint}
use Rattle.lp.specs.declared.Floors.{Floors}
use Rattle.lp.specs.declared.Outcome.{Outcome}
use Rattle.lp.specs.declared.Outcome.TheVariants.{Infeasible, Unbounded, Optimal}
use Rattle.lp.specs.Outcome.{every}
use Rattle.records.specs.Layout.{v2}
use Rattle.book.specs.Reading.{accepted, read_of, records_of, rules_of}
use Rattle.book.specs.Reading.{Entry}
use Rattle.slip.specs.declared.Weights.{Weights}
use Rattle.slip.specs.declared.Slip.{Slip}
use Rattle.slip.specs.declared.Verdict.{Verdict}
use Rattle.slip.specs.declared.Verdict.TheVariants.{Yes}
use Rattle.slip.specs.Slots.{one, two, three}
use Rattle.slip.specs.Facts.{Share, share, shares, ranges, entry_of, is_entry, weight_in_range, share_in_range, pair_in_range, entries_in_range}
use Rattle.slip.specs.Facts.{distinct, in_range, verdict_of}
use Rattle.slip.proofs.Shares.{both}
use Rattle.slip_theory.proofs.Meaning.{yes-exactly_if}
use Rattle.slips.specs.Writing.{Tidy, TidyFor, Planned}
use Rattle.std.specs.Prelude.{Ok}
use Rattle.slip_reader.specs.Reading.{Slotted, Counted, Plain, WideOutcome, WideWeights, Says}
use Rattle.check_line.specs.Checks.{Checks}
use Rattle.slip_line.specs.Line.{slip_line, written_fields}

-- ---- a code that names an entry is not below 0

named-from : (floors : Floors) (records : List ℕ) (rules : List Constraint) (c : ℤ) →
    is_entry (entry_of floors records rules c) ≡ true →
    le_z (pos 0) c ≡ true
named-from floors records rules (pos n) e = le-leb 0 n (omega arith)
named-from floors records rules (negsuc n) e = absurd (subst T (sym e) tt)

-- ---- the slots of a slip in range

at_least_0 : (k : ℕ) (z : ℤ) → le_z (pos k) z ≡ true → le_z (pos 0) z ≡ true
at_least_0 k (pos n) e = le-leb 0 n (omega arith)
at_least_0 k (negsuc n) e = absurd (subst T (sym e) tt)

at-most_3 : (k : ℕ) (z : ℤ) → k ≤ 3 → le_z z (pos k) ≡ true → le_z z (pos 3) ≡ true
at-most_3 k (pos n) h e = le-leb n 3 (omega (arith, leb-true n k e))
at-most_3 k (negsuc n) h e = refl

module _ (t : Terms) (records : List ℕ) (rules : List Constraint) (w : Weights) where
  abbrev Fine : Share → Bool
  Fine = share_in_range t records rules

  fine_from : (c x : ℤ) → Fine (share c x) ≡ true → le_z (pos 0) c ≡ true
  fine_from c x e = named-from t.floors records rules c (both (weight_in_range x) (is_entry (entry_of t.floors records rules c)) e).1

  slotted : (counts : Bool) (c x : ℤ) →
      (counts ≡ true → Fine (share c x) ≡ true) →
      (counts ≡ false → (c ≡ pos 0) × (x ≡ pos 0)) →
      Slotted counts c x
  slotted true c x f g = fine_from c x (f refl)
  slotted false c x f g = g refl

  abbrev rest₂ : List Share
  rest₂ = cond (lt_z (pos 2) w.count) (share w.third w.third_weight ∷ []) []

  abbrev rest₁ : List Share
  rest₁ = cond (lt_z (pos 1) w.count) (share w.second w.second_weight ∷ rest₂) []

  -- what holds of every member of a list that is there
  first_of : (b : Bool) (s : Share) (l : List Share) →
      every Fine (cond b (s ∷ l) []) ≡ true →
      b ≡ true →
      (Fine s ≡ true) × (every Fine l ≡ true)
  first_of true s l e h = go (Fine s) refl e
    where
      go : (b : Bool) →
          Fine s ≡ b →
          elim b [ true ↦ every Fine l | false ↦ false ] ≡ true →
          (Fine s ≡ true) × (every Fine l ≡ true)
      go true f e = (f, e)
      go false f e = absurd (subst T (sym e) tt)
  first_of false s l e h = absurd (subst T (sym h) tt)

  module _ (e : every Fine (shares w) ≡ true) where
    first_fine : one w ≡ true → (Fine (share w.first w.first_weight) ≡ true) × (every Fine rest₁ ≡ true)
    first_fine = first_of (one w) (share w.first w.first_weight) rest₁ e

    second_fine : two w ≡ true → (Fine (share w.second w.second_weight) ≡ true) × (every Fine rest₂ ≡ true)
    second_fine h =
        let p = both (one w) (lt_z (pos 1) w.count) h in
        first_of (lt_z (pos 1) w.count) (share w.second w.second_weight) rest₂ (first_fine p.0).1 p.1

    third_fine : three w ≡ true → Fine (share w.third w.third_weight) ≡ true
    third_fine h =
        let p = both (two w) (lt_z (pos 2) w.count) h in
        (first_of (lt_z (pos 2) w.count) (share w.third w.third_weight) [] (second_fine p.0).1 p.1).0

  -- a count that is not above j is not above more
  above-less : (j k : ℕ) (z : ℤ) → j ≤ k → lt_z (pos j) z ≡ false → lt_z (pos k) z ≡ false
  above-less j k (pos n) h e = le-ltb k n (omega (arith, h, ltb-false j n e))
  above-less j k (negsuc n) h e = refl

  two-unused : two w ≡ false → lt_z (pos 1) w.count ≡ false
  two-unused h = go (one w) refl h
    where
      go : (b : Bool) → one w ≡ b → b && lt_z (pos 1) w.count ≡ false → lt_z (pos 1) w.count ≡ false
      go true e h = h
      go false e h = above-less 0 1 w.count (omega arith) e

  three-unused : three w ≡ false → lt_z (pos 2) w.count ≡ false
  three-unused h = go (two w) refl h
    where
      go : (b : Bool) → two w ≡ b → b && lt_z (pos 2) w.count ≡ false → lt_z (pos 2) w.count ≡ false
      go true e h = h
      go false e h = above-less 1 2 w.count (omega arith) (two-unused e)

  counted : (k m : ℕ) →
      m ≤ 3 →
      entries_in_range t records rules (pos k) (pos m) w ≡ true →
      Tidy w →
      Counted w
  counted k m h e tidy =
      let p = both (ranges (pos k) w.count (pos m)) (every Fine (shares w))
      (both (ranges (pos k) w.count (pos m) && every Fine (shares w)) (distinct (shares w)) e).0 in
      let fine = p.1 in
      let r = both (le_z (pos k) w.count) (le_z w.count (pos m)) p.0 in
      record {
        few = λ i. at_least_0 k w.count r.0 i && at-most_3 m w.count h r.1 i;
        first = slotted (one w) w.first w.first_weight (λ c. (first_fine fine c).0) tidy.first-unused;
        second =
            slotted (two w) w.second w.second_weight (λ c. (second_fine fine c).0)
            (λ c. tidy.second-unused (two-unused c));
        third =
            slotted (three w) w.third w.third_weight (third_fine fine) (λ c. tidy.third-unused (three-unused c));
      }

-- ---- the line

module _ (t : Terms) (es : List Entry) (s : Slip) (p : Planned t es s) where
  ranged : in_range t (records_of es) (rules_of es) s.outcome s.weights ≡ true
  ranged = ((yes-exactly_if t (records_of es) (rules_of es) s).0 p.checked).0

  planned-plain : Plain s.outcome s.weights
  planned-plain = go s.outcome ranged p.unused
    where
      go : (o : Outcome) →
          in_range t (records_of es) (rules_of es) o s.weights ≡ true →
          TidyFor o s.weights →
          Plain o s.weights
      go Infeasible r u = (counted t (records_of es) (rules_of es) s.weights 1 3 (omega arith) r u.1, u.0)
      go (Unbounded v d) r u = u
      go (Optimal v) r u =
          counted t (records_of es) (rules_of es) s.weights 0 2 (omega arith)
          (both (pair_in_range v && weight_in_range s.weights.scale)
          (entries_in_range t (records_of es) (rules_of es) (pos 0) (pos 2) s.weights) r).1 u

  -- the line says the slip
  pub line-says : WideOutcome s.outcome → WideWeights s.weights → Says (slip_line (Ok s)) s
  unfolding slip_line written_fields
  line-says o w = record { plain = planned-plain; wide-outcome = o; wide-weights = w; stands = inr refl }

-- and the checker of lines says yes to it
pub line-yes : (book : List ℕ) (t : Terms) (es : List Entry) (s : Slip) →
    read_of v2 book ≡ accepted t es →
    Planned t es s →
    WideOutcome s.outcome →
    WideWeights s.weights →
    (r : Verdict) →
    Checks book (slip_line (Ok s)) r →
    r ≡ Yes
line-yes book t es s e p o w r c =
    c.said s (line-says t es s p o w) ∙ ap (λ x. verdict_of x s) e ∙ p.checked
