-- What reading an accepted book leaves in runs with room: the chain's records and its rules, in order, each within its range.
use mathlib.Core.Path.{◌≡◌, refl, sym, ◌∙◌, ap, ap₂, subst}
use mathlib.Core.List.{List, [], ◌∷◌}
use Prim.Native.Nat.{ℕ, zero, suc, ◌+◌, ◌*◌, ◌≤◌, ◌<◌}
use native.Mathlib.Omega.{arith}
use lib.ListN.{length, get_or}
use lib.IntN.{ℤ}
use Rattle.lp.specs.declared.Constraint.{Constraint}
use Rattle.lp.specs.declared.Terms.{Terms}
use Rattle.lp.specs.Range.{SmallConstraint, SmallSystem, SmallTerms}
use Rattle.records.specs.Layout.{v2}
use Rattle.book.specs.declared.Head.{Head}
use Rattle.book.specs.Reading.{Reading, refused, accepted, Entry, read_of, rules_of, records_of}
use Rattle.book.specs.Runs.{Few, put_records, put_rules}
use Rattle.book.specs.Promises.{head_of, ReadInto}
use Rattle.book.proofs.Bounds.{chain-count, rules-small, terms-small}
use Rattle.book.proofs.Causes.{accepted-clear, accepted-passed, count-is, count_small}
use Rattle.book.proofs.Runs.{record-placed, records-length, rule-placed, rules-length}
use Rattle.book.proofs.Results.{ok-err, same_Ok}
use Rattle.book.proofs.Said.{said-refused}
use Rattle.std.specs.Prelude.{Ok, Err}
use Rattle.answers.specs.declared.Refusal.{Refusal}
use Rattle.answers.specs.Refusal.{refusal}
use Rattle.slip.specs.declared.Slip.{Slip}
use Rattle.slip.specs.declared.Verdict.{Verdict}
use Rattle.slip.specs.declared.Verdict.TheVariants.{Refused}
use Rattle.slip.specs.Facts.{none, judged, verdict_of}
use Rattle.slip.specs.Runs.{entry, entries, indices, Roomy, Chain}

length-rules : (es : List Entry) → length (rules_of es) ≡ length es
length-rules [] = refl
length-rules (x ∷ es) = ap suc (length-rules es)

length-records : (es : List Entry) → length (records_of es) ≡ length es
length-records [] = refl
length-records (x ∷ es) = ap suc (length-records es)

-- a run of entries is a list, if each entry is the list's
entries_are : (l : List ℤ) (i : ℕ) (rs : List Constraint) →
    ((k : ℕ) → k < length rs → entry l (k + i) ≡ get_or rs k none) →
    entries l i (length rs) ≡ rs
entries_are l i [] f = refl
entries_are l i (r ∷ rs) f =
    ap₂ (λ (x : Constraint) (y : List Constraint). x ∷ y) (ap (entry l) (first i) ∙ f 0 (omega arith))
    (entries_are l (suc i) rs (λ k h. ap (entry l) (shift k) ∙ f (suc k) (omega arith)))
  where
    first : (i : ℕ) → i ≡ 0 + i
    first i = omega arith

    shift : (k : ℕ) → k + suc i ≡ suc k + i
    shift k = omega arith

indices_are : (l : List ℕ) (i : ℕ) (rs : List ℕ) →
    ((k : ℕ) → k < length rs → get_or l (k + i) 0 ≡ get_or rs k 0) →
    indices l i (length rs) ≡ rs
indices_are l i [] f = refl
indices_are l i (r ∷ rs) f =
    ap₂ (λ (x : ℕ) (y : List ℕ). x ∷ y) (ap (λ n. get_or l n 0) (first i) ∙ f 0 (omega arith))
    (indices_are l (suc i) rs (λ k h. ap (λ n. get_or l n 0) (shift k) ∙ f (suc k) (omega arith)))
  where
    first : (i : ℕ) → i ≡ 0 + i
    first i = omega arith

    shift : (k : ℕ) → k + suc i ≡ suc k + i
    shift k = omega arith

small_at : (S : List Constraint) → SmallSystem S → (k : ℕ) → k < length S → SmallConstraint (get_or S k none)
small_at [] h k b = absurd (empty b)
  where
    empty : k < 0 → ⊥
    empty b = omega arith
small_at (r ∷ S) h zero b = h.0
small_at (r ∷ S) h (suc k) b = small_at S h.1 k (omega arith)

module _
    (s records : List ℕ) (rules : List ℤ) (h : Head) (records' : List ℕ) (rules' : List ℤ)
    (read : ReadInto v2 s records rules (Ok h) records' rules')
    (room : Roomy s records rules) where
  -- ---- of an accepted book

  module _ (t : Terms) (es : List Entry) (e : read_of v2 s ≡ accepted t es) where
    pub same_head : h ≡ record { terms = t; n = length es }
    same_head = same_Ok h (record { terms = t; n = length es }) (read.answer ∙ ap head_of e)

    same-n : h.n ≡ length es
    same-n = ap (λ (x : Head). x.n) same_head

    noted : records' ≡ put_records records 0 es
    noted = read.recorded ∙ ap (put_records records 0) (accepted-passed v2 s e)

    laid : rules' ≡ put_rules rules 0 es
    laid = read.ruled ∙ ap (put_rules rules 0) (accepted-passed v2 s e)

    names-room : length es ≤ length records
    names-room = omega (arith, chain-count v2 s e, room.names (accepted-clear v2 s e))

    rules-room : 3 * length es ≤ length rules
    rules-room = omega (arith, chain-count v2 s e, room.rules (accepted-clear v2 s e))

    placed : (k : ℕ) → k < length es → entry rules' k ≡ get_or (rules_of es) k none
    placed k b =
        let p = rule-placed rules es k rules-room b in
        ap (λ l. entry l k) laid ∙ (λ i. record { a = p.a i; b = p.b i; c = p.c i })

    pub chain-records : indices records' 0 h.n ≡ records_of es
    chain-records =
        ap (indices records' 0) (same-n ∙ sym (length-records es))
        ∙ indices_are records' 0 (records_of es)
        (λ k b. ap (λ n. get_or records' n 0) (plus k) ∙ ap (λ (l : List ℕ). get_or l k 0) noted
        ∙ record-placed records es k names-room (omega (arith, length-records es)))
      where
        plus : (k : ℕ) → k + 0 ≡ k
        plus k = omega arith

    pub chain-rules : entries rules' 0 h.n ≡ rules_of es
    chain-rules =
        ap (entries rules' 0) (same-n ∙ sym (length-rules es))
        ∙ entries_are rules' 0 (rules_of es) (λ k b. ap (entry rules') (plus k) ∙ placed k (omega (arith, length-rules es)))
      where
        plus : (k : ℕ) → k + 0 ≡ k
        plus k = omega arith

    pub chain-laid : Chain h.terms records' rules' h.n
    chain-laid =
        record {
          terms = subst SmallTerms (sym (ap (λ (x : Head). x.terms) same_head)) (terms-small v2 s e);
          names = omega (arith, same-n, names-room, ap length noted, records-length records 0 es);
          entries = record {
            room = omega (arith, same-n, rules-room, ap length laid, rules-length rules 0 es);
            small = λ k b. small k (omega (arith, same-n));
          };
        }
      where
        small : (k : ℕ) → k < length es → SmallConstraint (entry rules' k)
        small k b =
            subst SmallConstraint (sym (placed k b)) (small_at (rules_of es) (rules-small v2 s e) k (omega (arith, length-rules es)))

  -- ---- of a book that is read so

  never-refused : {n i : ℕ} → read_of v2 s ≡ refused n i → ⊥
  never-refused {n} {i} q = ok-err h (refusal n i) (read.answer ∙ ap head_of q)

  pub judged_asks : Chain h.terms records' rules' h.n
  judged_asks = go (read_of v2 s) refl
    where
      go : (r : Reading) → read_of v2 s ≡ r → Chain h.terms records' rules' h.n
      go (refused n i) e = absurd (never-refused e)
      go (accepted t es) e = chain-laid t es e

  pub accepted-verdict : (slip : Slip) →
      {x : Verdict} →
      x ≡ judged h.terms (indices records' 0 h.n) (entries rules' 0 h.n) slip →
      x ≡ verdict_of (read_of v2 s) slip
  accepted-verdict slip {x} ex = go (read_of v2 s) refl
    where
      go : (r : Reading) → read_of v2 s ≡ r → x ≡ verdict_of r slip
      go (refused n i) e = absurd (never-refused e)
      go (accepted t es) e =
          ex
          ∙ λ i. judged (same_head t es e i).terms (chain-records t es e i) (chain-rules t es e i) slip

-- ---- of a book that is turned back

pub refused-verdict : {s records : List ℕ} {rules : List ℤ} {x : Refusal} {records' : List ℕ} {rules' : List ℤ} →
    ReadInto v2 s records rules (Err x) records' rules' →
    (slip : Slip) →
    Refused x ≡ verdict_of (read_of v2 s) slip
refused-verdict r slip = ap (λ (y : Reading). verdict_of y slip) (sym (said-refused r))

-- ---- how many rules a book can have

pub few-roomy : (s : List ℕ) (n : ℕ) →
    Few v2 s n →
    (records : List ℕ) (l : List ℤ) →
    length records ≡ n →
    length l ≡ 3 * n →
    Roomy s records l
few-roomy s n few records l er el =
    record { names = λ clear. omega (arith, few clear); rules = λ clear. omega (arith, few clear) }

pub few-by-length : (s : List ℕ) (n : ℕ) → length s ≤ (n + 1) * 14 → Few v2 s n
few-by-length s n h clear = omega (arith, h, count-is v2 s clear)

pub most-rules : (s : List ℕ) → Few v2 s 4095
most-rules s clear = omega (arith, count_small v2 s clear)
