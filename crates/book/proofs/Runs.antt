-- The runs that a reading is lent, after it: lengths are unchanged, and with room the k-th record and the k-th rule of the chain stand at
-- place k.
use Prim.Native.Nat.{ℕ, zero, suc, ◌+◌, ◌*◌, ◌≤◌, ◌<◌}
use mathlib.Core.Path.{◌≡◌, refl, sym, ap, ◌∙◌}
use mathlib.Core.Bool.{Bool, true, false, cond}
use mathlib.Core.List.{List, [], ◌∷◌, ◌++◌}
use native.Mathlib.Omega.{arith}
use native.Mathlib.Nat.{add-zero}
use borrow.Author.Tests.{lt-ltb}
use lib.ListN.{length, get_or, set, take, length-set, length-map}
use lib.Seq.{get_or-set_same, get_or-set_other, get_or-take, length-take-le, ext_get_or}
use lib.Dec.{ltb}
use lib.IntN.{ℤ, pos}
use Rattle.lp.specs.declared.Constraint.{Constraint}
use Rattle.lp.specs.Program.{constraint}
use Rattle.records.specs.Planned.{planned_rule}
use Rattle.book.specs.Reading.{Entry, records_of, rules_of}
use Rattle.book.specs.Runs.{put_entry, put_records, put_rules}

-- ---- the records

pub records-length : (l : List ℕ) (k : ℕ) (es : List Entry) → length (put_records l k es) ≡ length l
unfolding put_records
records-length l k [] = refl
records-length l k (e ∷ es) = records-length (set l k e.index) (suc k) es ∙ length-set l k e.index

-- one entry more
pub records_snoc : (l : List ℕ) (k : ℕ) (es : List Entry) (e : Entry) →
    put_records l k (es ++ (e ∷ [])) ≡ set (put_records l k es) (k + length es) e.index
unfolding put_records
records_snoc l k [] e = ap (λ i. set l i e.index) (sym (add-zero k))
records_snoc l k (d ∷ es) e =
    let next : suc k + length es ≡ k + suc (length es) = omega arith in
    records_snoc (set l k d.index) (suc k) es e
    ∙ ap (λ i. set (put_records (set l k d.index) (suc k) es) i e.index) next

-- what stands before them stays
records-before : (l : List ℕ) (k : ℕ) (es : List Entry) (j : ℕ) → j < k → get_or (put_records l k es) j 0 ≡ get_or l j 0
unfolding put_records
records-before l k [] j h = refl
records-before l k (e ∷ es) j h =
    records-before (set l k e.index) (suc k) es j (omega arith)
    ∙ get_or-set_other l k j e.index 0 (λ q. let z : ⊥ = omega arith in z)

record-from : (l : List ℕ) (k : ℕ) (es : List Entry) (j : ℕ) →
    k + length es ≤ length l →
    j < length es →
    get_or (put_records l k es) (k + j) 0 ≡ get_or (records_of es) j 0
unfolding put_records
record-from l k [] j room h = absurd (let z : ⊥ = omega arith in z)
record-from l k (e ∷ es) zero room h =
    ap (λ i. get_or (put_records (set l k e.index) (suc k) es) i 0) (add-zero k)
    ∙ records-before (set l k e.index) (suc k) es k (omega arith)
    ∙ get_or-set_same l k e.index 0 (omega arith)
record-from l k (e ∷ es) (suc j) room h =
    let next : k + suc j ≡ suc k + j = omega arith in
    ap (λ i. get_or (put_records (set l k e.index) (suc k) es) i 0) next
    ∙ record-from (set l k e.index) (suc k) es j (omega (arith, length-set l k e.index)) (omega arith)

-- with room, place k has the k-th record
pub record-placed : (l : List ℕ) (es : List Entry) (k : ℕ) →
    length es ≤ length l →
    k < length es →
    get_or (put_records l 0 es) k 0 ≡ get_or (records_of es) k 0
record-placed l es k room h =
    let z : 0 + k ≡ k = omega arith in
    ap (λ i. get_or (put_records l 0 es) i 0) (sym z) ∙ record-from l 0 es k (omega arith) h

-- so that the run starts with the chain's records
pub records-taken : (l : List ℕ) (es : List Entry) → length es ≤ length l → take (length es) (put_records l 0 es) ≡ records_of es
records-taken l es room =
    let long : length (take (length es) (put_records l 0 es)) ≡ length es =
    length-take-le (length es) (put_records l 0 es) (omega (arith, records-length l 0 es)) in
    let many : length (records_of es) ≡ length es = length-map es (λ (e : Entry). e.index) in
    ext_get_or 0 (take (length es) (put_records l 0 es)) (records_of es) (long ∙ sym many)
    (λ j h. get_or-take (length es) (put_records l 0 es) j 0 (omega (arith, long)) ∙ record-placed l es j room (omega (arith, long)))

-- ---- the rules

-- a constraint stands at place k of a run
pub record Placed (l : List ℤ) (k : ℕ) (r : Constraint) : Type 0 where
  pub a : get_or l (3 * k) (pos 0) ≡ r.a
  pub b : get_or l (3 * k + 1) (pos 0) ≡ r.b
  pub c : get_or l (3 * k + 2) (pos 0) ≡ r.c

module _ (l : List ℤ) (k : ℕ) (r : Constraint) where
  abbrev written : List ℤ
  written = set (set (set l (3 * k) r.a) (3 * k + 1) r.b) (3 * k + 2) r.c

  written-length : length written ≡ length l
  written-length = simp length-set

  pub entry_length : length (put_entry l k r) ≡ length l
  entry_length = go (ltb (3 * k + 2) (length l))
    where
      go : (b : Bool) → length (cond b written l) ≡ length l
      go true = written-length
      go false = refl

  -- what stands elsewhere stays
  pub entry_other : (j : ℕ) → (j < 3 * k) → get_or (put_entry l k r) j (pos 0) ≡ get_or l j (pos 0)
  entry_other j h = go (ltb (3 * k + 2) (length l))
    where
      go : (b : Bool) → get_or (cond b written l) j (pos 0) ≡ get_or l j (pos 0)
      go true =
          get_or-set_other (set (set l (3 * k) r.a) (3 * k + 1) r.b) (3 * k + 2) j r.c (pos 0) (λ q. let z : ⊥ = omega arith in z)
          ∙ get_or-set_other (set l (3 * k) r.a) (3 * k + 1) j r.b (pos 0) (λ q. let z : ⊥ = omega arith in z)
          ∙ get_or-set_other l (3 * k) j r.a (pos 0) (λ q. let z : ⊥ = omega arith in z)
      go false = refl

  module _ (room : 3 * k + 2 < length l) where
    put_is : put_entry l k r ≡ written
    put_is = rw (lt-ltb (3 * k + 2) (length l) room)

    pub entry-placed : Placed (put_entry l k r) k r
    entry-placed =
        record {
          a =
              ap (λ x. get_or x (3 * k) (pos 0)) put_is
              ∙ get_or-set_other (set (set l (3 * k) r.a) (3 * k + 1) r.b) (3 * k + 2) (3 * k) r.c (pos 0)
              (λ q. let z : ⊥ = omega arith in z)
              ∙ get_or-set_other (set l (3 * k) r.a) (3 * k + 1) (3 * k) r.b (pos 0) (λ q. let z : ⊥ = omega arith in z)
              ∙ get_or-set_same l (3 * k) r.a (pos 0) (omega arith);
          b =
              ap (λ x. get_or x (3 * k + 1) (pos 0)) put_is
              ∙ get_or-set_other (set (set l (3 * k) r.a) (3 * k + 1) r.b) (3 * k + 2) (3 * k + 1) r.c (pos 0)
              (λ q. let z : ⊥ = omega arith in z)
              ∙ get_or-set_same (set l (3 * k) r.a) (3 * k + 1) r.b (pos 0) (simp length-set (omega arith));
          c =
              ap (λ x. get_or x (3 * k + 2) (pos 0)) put_is
              ∙ get_or-set_same (set (set l (3 * k) r.a) (3 * k + 1) r.b) (3 * k + 2) r.c (pos 0) (simp length-set room);
        }

pub rules-length : (l : List ℤ) (k : ℕ) (es : List Entry) → length (put_rules l k es) ≡ length l
unfolding put_rules
rules-length l k [] = refl
rules-length l k (e ∷ es) =
    rules-length (put_entry l k (planned_rule e.rule)) (suc k) es ∙ entry_length l k (planned_rule e.rule)

-- one entry more
pub rules_snoc : (l : List ℤ) (k : ℕ) (es : List Entry) (e : Entry) →
    put_rules l k (es ++ (e ∷ [])) ≡ put_entry (put_rules l k es) (k + length es) (planned_rule e.rule)
unfolding put_rules
rules_snoc l k [] e = ap (λ i. put_entry l i (planned_rule e.rule)) (sym (add-zero k))
rules_snoc l k (d ∷ es) e =
    let next : suc k + length es ≡ k + suc (length es) = omega arith in
    rules_snoc (put_entry l k (planned_rule d.rule)) (suc k) es e
    ∙ ap (λ i. put_entry (put_rules (put_entry l k (planned_rule d.rule)) (suc k) es) i (planned_rule e.rule)) next

-- what stands before them stays
rules-before : (l : List ℤ) (k : ℕ) (es : List Entry) (j : ℕ) → j < 3 * k → get_or (put_rules l k es) j (pos 0) ≡ get_or l j (pos 0)
unfolding put_rules
rules-before l k [] j h = refl
rules-before l k (e ∷ es) j h =
    rules-before (put_entry l k (planned_rule e.rule)) (suc k) es j (omega arith)
    ∙ entry_other l k (planned_rule e.rule) j h

placed-before : (l : List ℤ) (k : ℕ) (es : List Entry) (j : ℕ) (r : Constraint) → j < k → Placed l j r → Placed (put_rules l k es) j r
placed-before l k es j r h p =
    record {
      a = rules-before l k es (3 * j) (omega arith) ∙ p.a;
      b = rules-before l k es (3 * j + 1) (omega arith) ∙ p.b;
      c = rules-before l k es (3 * j + 2) (omega arith) ∙ p.c;
    }

abbrev pub no_rule : Constraint
no_rule = constraint (pos 0) (pos 0) (pos 0)

rule-from : (l : List ℤ) (k : ℕ) (es : List Entry) (j : ℕ) →
    3 * (k + length es) ≤ length l →
    j < length es →
    Placed (put_rules l k es) (k + j) (get_or (rules_of es) j no_rule)
unfolding put_rules
rule-from l k [] j room h = absurd (let z : ⊥ = omega arith in z)
rule-from l k (e ∷ es) zero room h =
    rw (add-zero k)
    (placed-before (put_entry l k (planned_rule e.rule)) (suc k) es k (planned_rule e.rule) (omega arith)
    (entry-placed l k (planned_rule e.rule) (omega arith)))
rule-from l k (e ∷ es) (suc j) room h =
    let next : k + suc j ≡ suc k + j = omega arith in
    rw next
    (rule-from (put_entry l k (planned_rule e.rule)) (suc k) es j
    (omega (arith, entry_length l k (planned_rule e.rule))) (omega arith))

-- with room, place k has the k-th rule as it is planned
pub rule-placed : (l : List ℤ) (es : List Entry) (k : ℕ) →
    3 * length es ≤ length l →
    k < length es →
    Placed (put_rules l 0 es) k (get_or (rules_of es) k no_rule)
rule-placed l es k room h = rw zero-plus at (rule-from l 0 es k (omega arith) h)
  where
    zero-plus : 0 + k ≡ k
    zero-plus = omega arith
