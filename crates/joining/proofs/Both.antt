-- Both books read, the tenant's behind the site's: what the runs hold is the site's chain and then the tenant's.
use Rattle.std.specs.Prelude.{Result, Ok}
use mathlib.Core.Path.{◌≡◌, refl, sym, ◌∙◌, ap, ap₂, subst}
use mathlib.Core.List.{List, [], ◌∷◌, ◌++◌}
use Prim.Native.Nat.{ℕ, suc, ◌+◌, ◌-◌, ◌≤◌, ◌<◌}
use native.Mathlib.Omega.{arith}
use native.Mathlib.Decide.{dec_lt}
use lib.ListN.{length, get_or, length-append, get_or-append}
use lib.Seq.{get_or-append-add}
use lib.IntN.{ℤ}
use Rattle.lp.specs.declared.Constraint.{Constraint}
use Rattle.lp.specs.declared.Terms.{Terms}
use Rattle.records.specs.Layout.{v2}
use Rattle.answers.specs.declared.Refusal.{Refusal}
use Rattle.book.specs.declared.Head.{Head}
use Rattle.book.specs.Reading.{Reading, refused, accepted, Entry, read_of, rules_of, records_of}
use Rattle.book.specs.Runs.{Few}
use Rattle.book.specs.Promises.{head_of}
use Rattle.book.proofs.Bounds.{chain-count, count_room}
use Rattle.book.proofs.Causes.{accepted-clear}
use Rattle.engine.specs.Entries.{entry, entries}
use Rattle.joining.specs.Running.{no_rule, Roomy, Behind, Stand, ReadsBehind, Laid, ReadBy, ReadsBoth}

-- ---- how many rules a book has

pub length-rules : (es : List Entry) → length (rules_of es) ≡ length es
length-rules [] = refl
length-rules (x ∷ es) = ap suc (length-rules es)

pub length-records : (es : List Entry) → length (records_of es) ≡ length es
length-records [] = refl
length-records (x ∷ es) = ap suc (length-records es)

pub chain-few : (s : List ℕ) (n : ℕ) → Few v2 s n → (t : Terms) (es : List Entry) → read_of v2 s ≡ accepted t es → length es ≤ n
chain-few s n few t es e = omega (arith, chain-count v2 s e, few (accepted-clear v2 s e))

-- what a head that was read says of its book
pub head_accepted : (s : List ℕ) {h : Head} →
    Ok h ≡ head_of (read_of v2 s) →
    (t : Terms) × ((es : List Entry) × ((read_of v2 s ≡ accepted t es) × (h ≡ record { terms = t; n = length es })))
head_accepted s {h} same = go (read_of v2 s) refl
  where
    go : (x : Reading) →
        read_of v2 s ≡ x →
        (t : Terms) × ((es : List Entry) × ((read_of v2 s ≡ accepted t es) × (h ≡ record { terms = t; n = length es })))
    go (refused k i) e = absurd (let clash = same ∙ ap head_of e in let z : ◌≡◌ {A = ℕ} 0 1 = cc in let b : ⊥ = omega arith in b)
    go (accepted t es) e = (t, (es, (e, let both = same ∙ ap head_of e in cc)))

pub head_few : (s : List ℕ) (n : ℕ) → Few v2 s n → (h : Head) → Ok h ≡ head_of (read_of v2 s) → (h.n ≤ n) × (h.n < 4096)
head_few s n few h same =
    let a = head_accepted s same in
    let e = a.1.1.0 in
    let all : h.n ≡ length a.1.0 = ap (λ (y : Head). y.n) a.1.1.1 in
    (omega (arith, all, chain-few s n few a.0 a.1.0 e), omega (arith, all, chain-count v2 s e, count_room v2 s e))

-- ---- entries as a list

entries_are : (l : List ℤ) (i : ℕ) (rs : List Constraint) →
    ((k : ℕ) → k < length rs → entry l (k + i) ≡ get_or rs k no_rule) →
    entries l i (length rs) ≡ rs
entries_are l i [] f = refl
entries_are l i (r ∷ rs) f =
    ap₂ (λ (x : Constraint) (y : List Constraint). x ∷ y) (ap (entry l) (first i) ∙ f 0 (omega arith))
    (entries_are l (suc i) rs (λ k h. ap (entry l) (shift k) ∙ f (suc k) (omega arith)))
  where
    first : (i : ℕ) → i ≡ 0 + i
    first i = omega arith

    shift : (k : ℕ) → k + suc i ≡ suc k + i
    shift k = omega arith

module _
    (s u names : List ℕ) (l : List ℤ) (asked : Roomy s u names l)
    {x : Result Head Refusal} (names₁ : List ℕ) (l₁ : List ℤ) (first : ReadsBehind s 0 names l x names₁ l₁) where
  module _ (h : Head) (ex : x ≡ Ok h) where
    same : Ok h ≡ head_of (read_of v2 s)
    same = sym ex ∙ first.answer

    -- room for the tenant's rules
    pub behind-site : Behind names₁ l₁ h.n
    behind-site =
        let few = head_few s asked.most asked.few.site h same in
        record {
          records = omega (arith, few.0, asked.records, first.same_names);
          rules = omega (arith, few.0, asked.rules, first.same_length);
          few = few.1;
        }

    module _ {z : Result Head Refusal} (names₂ : List ℕ) (l₂ : List ℤ) (second : ReadsBehind u h.n names₁ l₁ z names₂ l₂) where
      module _
          (t t' : Terms) (es fs : List Entry)
          (e : read_of v2 s ≡ accepted t es) (e' : read_of v2 u ≡ accepted t' fs)
          (many : h.n ≡ length es) where
        few-site : length es ≤ asked.most
        few-site = chain-few s asked.most asked.few.site t es e

        few-tenant : length fs ≤ asked.most
        few-tenant = chain-few u asked.most asked.few.tenant t' fs e'

        site : Stand es 0 names₁ l₁
        site = first.stand t es e (omega (arith, few-site, asked.records)) (omega (arith, few-site, asked.rules))

        tenant : Stand fs h.n names₂ l₂
        tenant =
            second.stand t' fs e' (omega (arith, few-site, few-tenant, many, asked.records, first.same_names))
            (omega (arith, few-site, few-tenant, many, asked.rules, first.same_length))

        plain : (i : ℕ) → 0 + i ≡ i
        plain i = omega arith

        site-named : (i : ℕ) → i < length es → get_or names₂ i 0 ≡ get_or (records_of es) i 0
        site-named i less =
            second.names-before i (omega (arith, many)) ∙ ap (λ k. get_or names₁ k 0) (sym (plain i)) ∙ site.named i less

        site-ruled : (i : ℕ) → i < length es → entry l₂ (i + 2) ≡ get_or (rules_of es) i no_rule
        site-ruled i less =
            second.rules-before (i + 2) (omega (arith, many))
            ∙ ap (λ k. entry l₁ (k + 2)) (sym (plain i))
            ∙ site.ruled i less

        tenant-named : (i : ℕ) → i < length fs → get_or names₂ (length es + i) 0 ≡ get_or (records_of fs) i 0
        tenant-named i less = ap (λ n. get_or names₂ (n + i) 0) (sym many) ∙ tenant.named i less

        tenant-ruled : (i : ℕ) → i < length fs → entry l₂ (length es + i + 2) ≡ get_or (rules_of fs) i no_rule
        tenant-ruled i less = ap (λ n. entry l₂ (n + i + 2)) (sym many) ∙ tenant.ruled i less

        in_place : (k : ℕ) → k < length (rules_of es ++ rules_of fs) → entry l₂ (k + 2) ≡ get_or (rules_of es ++ rules_of fs) k no_rule
        in_place k less = go (dec_lt k (length es))
          where
            go : Dec (k < length es) → entry l₂ (k + 2) ≡ get_or (rules_of es ++ rules_of fs) k no_rule
            go (yes early) =
                site-ruled k early
                ∙ sym (get_or-append (rules_of es) (rules_of fs) no_rule k (omega (arith, length-rules es)))
            go (no late) = behind (k - length es) (omega arith)
              where
                behind : (j : ℕ) → k ≡ length es + j → entry l₂ (k + 2) ≡ get_or (rules_of es ++ rules_of fs) k no_rule
                behind j q =
                    ap (λ n. entry l₂ (n + 2)) q
                    ∙ tenant-ruled j
                    (omega (arith, less, length-append (rules_of es) (rules_of fs), length-rules es, length-rules fs))
                    ∙ sym (get_or-append-add (rules_of es) (rules_of fs) j no_rule)
                    ∙ ap (λ n. get_or (rules_of es ++ rules_of fs) (n + j) no_rule) (length-rules es)
                    ∙ ap (λ n. get_or (rules_of es ++ rules_of fs) n no_rule) (sym q)

        all : length (rules_of es ++ rules_of fs) ≡ length es + length fs
        all = omega (arith, length-append (rules_of es) (rules_of fs), length-rules es, length-rules fs)

        laid : Laid es fs names₂ l₂
        laid =
            record {
              records = omega (arith, few-site, few-tenant, asked.records, first.same_names, second.same_names);
              room = omega (arith, few-site, few-tenant, asked.rules, first.same_length, second.same_length);
              site-names = site-named;
              tenant-names = tenant-named;
              rules = ap (entries l₂ 2) (sym all) ∙ entries_are l₂ 2 (rules_of es ++ rules_of fs) in_place;
            }

      pub reads_both : (g : Head) → z ≡ Ok g → ReadsBoth s u (Ok (record { site = h; tenant = g })) names₂ l₂
      reads_both g ez =
          let a = head_accepted s same in
          let b = head_accepted u (sym ez ∙ second.answer) in
          let r = Ok (record { site = h; tenant = g }) in
          record {
            reads =
                subst (λ (y : Reading). ReadBy y (read_of v2 u) r names₂ l₂) (sym a.1.1.0)
                (subst (λ (y : Reading). ReadBy (accepted a.0 a.1.0) y r names₂ l₂) (sym b.1.1.0) (
                  (λ i. Ok (record { site = a.1.1.1 i; tenant = b.1.1.1 i })),
                  laid a.0 b.0 a.1.0 b.1.0 a.1.1.0 b.1.1.0 (ap (λ (y : Head). y.n) a.1.1.1),
                ));
          }
