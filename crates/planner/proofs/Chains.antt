-- An accepted book's chain as a list of rules with a name for each: its names are its records, each its own and from 1 up, and what a
-- code stands for in the bytes is what stands at its index in the list.
use mathlib.Core.Path.{◌≡◌, refl, sym, ◌∙◌, ap}
use mathlib.Core.List.{List, [], ◌∷◌, map}
use Prim.Native.Nat.{ℕ, zero, suc, ◌+◌, ◌≤◌, ◌<◌}
use native.Mathlib.Omega.{arith}
use lib.ListN.{length, get_or, take, length-take}
use lib.Seq.{get_or-take}
use lib.IntN.{pos}
use Rattle.lp.specs.declared.Constraint.{Constraint}
use Rattle.lp.specs.declared.Floors.{Floors}
use Rattle.lp.specs.declared.Terms.{Terms}
use Rattle.lp.specs.Program.{constraint, system}
use Rattle.records.specs.Layout.{Layout}
use Rattle.records.specs.Record.{record_at, rule_of}
use Rattle.records.specs.Planned.{planned_rule}
use Rattle.book.specs.Reading.{accepted, Entry, read_of, entry_at, rules_of, records_of}
use Rattle.book.proofs.Bounds.{accepted-entries, index-within, index-distinct}
use Rattle.witness.specs.Witness.{code_at}
use Rattle.plans.specs.Planning.{Named}
use Rattle.planner.specs.Planning.{rule_named}

abbrev pub none : Constraint
none = constraint (pos 0) (pos 0) (pos 0)

pub length-rules : (es : List Entry) → length (rules_of es) ≡ length es
length-rules [] = refl
length-rules (x ∷ es) = ap suc (length-rules es)

pub length-records : (es : List Entry) → length (records_of es) ≡ length es
length-records [] = refl
length-records (x ∷ es) = ap suc (length-records es)

-- the k-th rule of entries that are their records'
rule_of-map : (L : Layout) (s is : List ℕ) (k : ℕ) →
    k < length is →
    get_or (rules_of (map (entry_at L s) is)) k none ≡ planned_rule (rule_of L (record_at L s (get_or is k 0)))
rule_of-map L s [] k h = absurd (empty h)
  where
    empty : k < 0 → ⊥
    empty h = omega arith
rule_of-map L s (i ∷ is) zero h = refl
rule_of-map L s (i ∷ is) (suc k) h = rule_of-map L s is k (omega arith)

rule-code : (L : Layout) (floors : Floors) (s : List ℕ) (r : ℕ) →
    1 ≤ r →
    rule_named L floors s (r + 1) ≡ planned_rule (rule_of L (record_at L s r))
rule-code L floors s zero h = absurd (let z : ⊥ = omega arith in z)
rule-code L floors s (suc q) h = ap (rule_named L floors s) (plus q)
  where
    plus : (q : ℕ) → suc q + 1 ≡ suc (suc q)
    plus q = omega arith

module _ (L : Layout) (s : List ℕ) (t : Terms) (es : List Entry) (e : read_of L s ≡ accepted t es) where
  pub chain-named : Named (records_of es) (rules_of es)
  chain-named =
      record {
        count = length-records es ∙ sym (length-rules es);
        from_one = λ i h. (index-within L s e i (omega (arith, length-records es))).0;
        apart = λ i j h k. index-distinct L s e i j h (omega (arith, length-records es));
      }

  -- the rule at a place of the chain is its record's
  pub rule-planned : (k : ℕ) →
      k < length es →
      get_or (rules_of es) k none ≡ planned_rule (rule_of L (record_at L s (get_or (records_of es) k 0)))
  rule-planned k h =
      ap (λ (l : List Entry). get_or (rules_of l) k none) (accepted-entries L s e)
      ∙ rule_of-map L s (records_of es) k (omega (arith, length-records es))

  -- looked up in the bytes, a code stands for what stands at its index
  pub looked : (k i : ℕ) →
      i < length (system t.floors (take k (rules_of es))) →
      rule_named L t.floors s (code_at (records_of es) i) ≡ get_or (system t.floors (take k (rules_of es))) i none
  looked k zero h = refl
  looked k (suc zero) h = refl
  looked k (suc (suc j)) h =
      rule-code L t.floors s (get_or (records_of es) j 0) (index-within L s e j high).0
      ∙ sym (rule-planned j high)
      ∙ sym (get_or-take k (rules_of es) j none low)
    where
      low : j < k
      low = omega (arith, length-take k (rules_of es))

      high : j < length es
      high = omega (arith, length-take k (rules_of es), length-rules es)
