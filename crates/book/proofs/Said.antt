-- What the reader says, in document 01's words: a number that it says is that of the first cause that applies, with the record that the
-- table names; and where it says none, no cause applies, and with room the runs start with the chain.
use Prim.Native.Nat.{ℕ, ◌*◌, ◌≤◌, ◌<◌}
use mathlib.Core.Path.{◌≡◌, refl, sym, ap, ◌∙◌, subst⁻¹}
use mathlib.Core.List.{List}
use native.Mathlib.Omega.{arith}
use lib.ListN.{length, get_or}
use lib.IntN.{ℤ}
use Rattle.lp.specs.declared.Terms.{Terms}
use Rattle.std.specs.Prelude.{Result, Ok, Err, IsOk}
use Rattle.answers.specs.declared.Refusal.{Refusal}
use Rattle.answers.specs.Refusal.{refusal}
use Rattle.records.specs.Layout.{Layout}
use Rattle.book.specs.declared.Head.{Head}
use Rattle.book.specs.Reading.{Reading, refused, accepted, Entry, records_of, rules_of, read_of}
use Rattle.book.specs.Runs.{put_records, put_rules}
use Rattle.book.specs.Promises.{head_of, ReadInto}
use Rattle.book.specs.Causes.{Applies}
use Rattle.book.proofs.Results.{ok-err, same_Ok, same_Err}
use Rattle.book.proofs.Causes.{refusal_applies, applies_refused, accepted-passed, accepted_no_cause, none_applies_accepted}
use Rattle.book.proofs.Bounds.{chain-count, count_room}
use Rattle.book.proofs.Runs.{Placed, no_rule, record-placed, rule-placed}

-- a book that is accepted, and what a reading leaves of it
pub record Accepted
    (L : Layout) (s first : List ℕ) (blank : List ℤ)
    (h : Head) (run : List ℕ) (rules : List ℤ) : Type 0 where
  pub terms : Terms
  pub entries : List Entry
  pub reads : read_of L s ≡ accepted terms entries
  pub head : h ≡ record { terms = terms; n = length entries }
  pub recorded : run ≡ put_records first 0 entries
  pub ruled : rules ≡ put_rules blank 0 entries

module _ {L : Layout} {s first run : List ℕ} {blank rules : List ℤ} where
  -- ---- a refusal

  pub said-refused : {x : Refusal} → ReadInto L s first blank (Err x) run rules → read_of L s ≡ refused x.number x.at
  said-refused {x} r = go (read_of L s) refl
    where
      go : (y : Reading) → read_of L s ≡ y → read_of L s ≡ refused x.number x.at
      go (refused k i) p =
          let e = same_Err x (refusal k i) (r.answer ∙ ap head_of p) in
          p ∙ sym (λ j. refused (e j).number (e j).at)
      go (accepted t es) p =
          absurd (ok-err (record { terms = t; n = length es }) x (sym (r.answer ∙ ap head_of p)))

  pub said_applies : {x : Refusal} → ReadInto L s first blank (Err x) run rules → Applies L s x.number x.at
  said_applies r = refusal_applies L s (said-refused r)

  pub applies_said : {h : Result Head Refusal} {k i : ℕ} →
      ReadInto L s first blank h run rules →
      Applies L s k i →
      h ≡ Err (refusal k i)
  applies_said r a = r.answer ∙ ap head_of (applies_refused L s a)

  -- ---- no refusal

  pub none_said : {h : Head} → ReadInto L s first blank (Ok h) run rules → Accepted L s first blank h run rules
  none_said {h} r = go (read_of L s) refl
    where
      go : (y : Reading) → read_of L s ≡ y → Accepted L s first blank h run rules
      go (refused k i) p = absurd (ok-err h (refusal k i) (r.answer ∙ ap head_of p))
      go (accepted t es) p =
          record {
            terms = t;
            entries = es;
            reads = p;
            head = same_Ok h (record { terms = t; n = length es }) (r.answer ∙ ap head_of p);
            recorded = r.recorded ∙ ap (put_records first 0) (accepted-passed L s p);
            ruled = r.ruled ∙ ap (put_rules blank 0) (accepted-passed L s p);
          }

  pub none_applies : {h : Head} → ReadInto L s first blank (Ok h) run rules → {k i : ℕ} → Applies L s k i → ⊥
  none_applies r a = accepted_no_cause L s (none_said r).reads a

  pub no_cause_none_said : {h : Result Head Refusal} →
      ReadInto L s first blank h run rules →
      ((k i : ℕ) → Applies L s k i → ⊥) →
      IsOk h
  no_cause_none_said {h} r none =
      let e = none_applies_accepted L s none in
      subst⁻¹ IsOk (r.answer ∙ ap head_of e.2) refl

-- ---- what a caller reads off an accepted book's runs

module _
    {L : Layout} {s first run : List ℕ} {blank rules : List ℤ} {h : Head}
    (a : Accepted L s first blank h run rules) where
  pub said-count : h.n ≡ length a.entries
  said-count = ap (λ (x : Head). x.n) a.head

  -- no more rules than the format has room for
  pub said-few : h.n < L.records
  said-few = omega (arith, said-count, chain-count L s a.reads, count_room L s a.reads)

  pub record-at-place : h.n ≤ length first → (k : ℕ) → k < h.n → get_or run k 0 ≡ get_or (records_of a.entries) k 0
  record-at-place room k g =
      ap (λ l. get_or l k 0) a.recorded
      ∙ record-placed first a.entries k (omega (arith, said-count)) (omega (arith, said-count))

  pub rule-at-place : 3 * h.n ≤ length blank → (k : ℕ) → k < h.n → Placed rules k (get_or (rules_of a.entries) k no_rule)
  rule-at-place room k g =
      rw a.ruled
      (rule-placed blank a.entries k (omega (arith, said-count)) (omega (arith, said-count)))
