-- The single list with its names: each rule has a name of its own, from 1 up, the site's below 4,096 and the tenant's above; and what a code
-- stands for in the two books' bytes is what stands at its index in the list.
use mathlib.Core.Path.{◌≡◌, refl, sym, ◌∙◌, ap}
use mathlib.Core.Bool.{Bool, cond}
use mathlib.Core.List.{List, [], ◌∷◌, map}
use Prim.Native.Nat.{ℕ, zero, suc, ◌+◌, ◌-◌, ◌≤◌, ◌<◌}
use native.Mathlib.Omega.{arith}
use native.Mathlib.Decide.{dec_lt}
use borrow.Author.Tests.{lt-ltb, le-ltb}
use lib.ListN.{length, get_or, take, length-take, length-append, length-map, get_or-append}
use lib.Seq.{get_or-take, get_or-append-add}
use Rattle.lp.specs.declared.Floors.{Floors}
use Rattle.lp.specs.declared.Terms.{Terms}
use Rattle.lp.specs.Program.{system}
use Rattle.records.specs.Layout.{v2}
use Rattle.book.specs.Reading.{accepted, Entry, read_of, entry_at, rules_of, records_of}
use Rattle.book.proofs.Bounds.{accepted-entries, index-within, index-distinct, count_room}
use Rattle.witness.specs.Witness.{code_at}
use Rattle.plans.specs.Planning.{Named}
use Rattle.joining.specs.Joining.{tenant_name, joined_names, joined_rules, rule_in, rule_by_name, rule_named}
use Rattle.joining.specs.Running.{no_rule}
use Rattle.joining.proofs.Both.{length-rules, length-records}
use Rattle.joining.proofs.Joins.{tenant-named}

-- the k-th rule of entries that are their records'
rule_of-map : (s is : List ℕ) (k : ℕ) → k < length is → get_or (rules_of (map (entry_at v2 s) is)) k no_rule ≡ rule_in s (get_or is k 0)
rule_of-map s [] k h = absurd (let z : ⊥ = omega arith in z)
rule_of-map s (i ∷ is) zero h = refl
rule_of-map s (i ∷ is) (suc k) h = rule_of-map s is k (omega arith)

-- the rule at a place of an accepted book's chain is its record's
rule-planned : (s : List ℕ) (t : Terms) (es : List Entry) →
    read_of v2 s ≡ accepted t es →
    (k : ℕ) →
    k < length es →
    get_or (rules_of es) k no_rule ≡ rule_in s (get_or (records_of es) k 0)
rule-planned s t es e k h =
    ap (λ (l : List Entry). get_or (rules_of l) k no_rule) (accepted-entries v2 s e)
    ∙ rule_of-map s (records_of es) k (omega (arith, length-records es))

module _
    (s u : List ℕ) (t t' : Terms) (es fs : List Entry)
    (e : read_of v2 s ≡ accepted t es) (e' : read_of v2 u ≡ accepted t' fs) where
  -- ---- the two halves of the list

  names-many : length (joined_names es fs) ≡ length es + length fs
  names-many =
      omega (
        arith,
        length-append (records_of es) (map tenant_name (records_of fs)),
        length-map (records_of fs) tenant_name,
        length-records es,
        length-records fs,
      )

  pub rules-many : length (joined_rules es fs) ≡ length es + length fs
  rules-many = omega (arith, length-append (rules_of es) (rules_of fs), length-rules es, length-rules fs)

  site-name : (i : ℕ) → i < length es → get_or (joined_names es fs) i 0 ≡ get_or (records_of es) i 0
  site-name i h = get_or-append (records_of es) (map tenant_name (records_of fs)) 0 i (omega (arith, length-records es))

  tenant-name : (j : ℕ) → j < length fs → get_or (joined_names es fs) (length es + j) 0 ≡ 4096 + get_or (records_of fs) j 0
  tenant-name j h =
      ap (λ n. get_or (joined_names es fs) (n + j) 0) (sym (length-records es))
      ∙ get_or-append-add (records_of es) (map tenant_name (records_of fs)) j 0
      ∙ tenant-named (records_of fs) j (omega (arith, length-records fs))

  site-rule : (i : ℕ) → i < length es → get_or (joined_rules es fs) i no_rule ≡ rule_in s (get_or (records_of es) i 0)
  site-rule i h =
      get_or-append (rules_of es) (rules_of fs) no_rule i (omega (arith, length-rules es)) ∙ rule-planned s t es e i h

  tenant-rule : (j : ℕ) → j < length fs → get_or (joined_rules es fs) (length es + j) no_rule ≡ rule_in u (get_or (records_of fs) j 0)
  tenant-rule j h =
      ap (λ n. get_or (joined_rules es fs) (n + j) no_rule) (sym (length-rules es))
      ∙ get_or-append-add (rules_of es) (rules_of fs) j no_rule
      ∙ rule-planned u t' fs e' j h

  site_range : (i : ℕ) → i < length es → (1 ≤ get_or (records_of es) i 0) × (get_or (records_of es) i 0 < 4096)
  site_range i h =
      let inside = index-within v2 s e i h in
      (inside.0, omega (arith, inside.1, count_room v2 s e))

  -- ---- names

  data Half (i : ℕ) : Type 0 where
    in_site : i < length es → Half i
    in_tenant : (j : ℕ) → i ≡ length es + j → j < length fs → Half i

  half : (i : ℕ) → i < length es + length fs → Half i
  half i h = go (dec_lt i (length es))
    where
      go : Dec (i < length es) → Half i
      go (yes early) = in_site early
      go (no late) = in_tenant (i - length es) (omega arith) (omega arith)

  pub joined-named : Named (joined_names es fs) (joined_rules es fs)
  joined-named =
      record {
        count = names-many ∙ sym rules-many;
        from_one = λ i h. from i (half i (omega (arith, names-many)));
        apart =
            λ i j h k same. distinct i j h (half i (omega (arith, names-many))) (half j (omega (arith, names-many))) same;
      }
    where
      from : (i : ℕ) → Half i → 1 ≤ get_or (joined_names es fs) i 0
      from i (in_site h) = omega (arith, site-name i h, (site_range i h).0)
      from i (in_tenant j p h) = omega (arith, ap (λ k. get_or (joined_names es fs) k 0) p, tenant-name j h)

      distinct : (i j : ℕ) →
          i < j →
          Half i →
          Half j →
          get_or (joined_names es fs) i 0 ≡ get_or (joined_names es fs) j 0 →
          ⊥
      distinct i j less (in_site h) (in_site k) same =
          index-distinct v2 s e i j less k (sym (site-name i h) ∙ same ∙ site-name j k)
      distinct i j less (in_site h) (in_tenant m p k) same =
          omega (arith, same, site-name i h, (site_range i h).1, ap (λ n. get_or (joined_names es fs) n 0) p, tenant-name m k)
      distinct i j less (in_tenant m p h) (in_site k) same = omega (arith, p)
      distinct i j less (in_tenant m p h) (in_tenant n q k) same =
          index-distinct v2 u e' m n (omega (arith, p, q)) k
          (omega (
            arith,
            same,
            ap (λ x. get_or (joined_names es fs) x 0) p,
            tenant-name m h,
            ap (λ x. get_or (joined_names es fs) x 0) q,
            tenant-name n k,
          ))

  -- ---- codes

  by_name : (floors : Floors) (name : ℕ) → 1 ≤ name → rule_named floors s u (name + 1) ≡ rule_by_name s u name
  by_name floors zero h = absurd (let z : ⊥ = omega arith in z)
  by_name floors (suc q) h = ap (rule_named floors s u) (plus q)
    where
      plus : (q : ℕ) → suc q + 1 ≡ suc (suc q)
      plus q = omega arith

  of_site : (r : ℕ) → r < 4096 → rule_by_name s u r ≡ rule_in s r
  of_site r h = ap (λ (b : Bool). cond b (rule_in s r) (rule_in u (r - 4096))) (lt-ltb r 4096 h)

  of_tenant : (r : ℕ) → rule_by_name s u (4096 + r) ≡ rule_in u r
  of_tenant r =
      ap (λ (b : Bool). cond b (rule_in s (4096 + r)) (rule_in u (4096 + r - 4096))) (le-ltb (4096 + r) 4096 (omega arith))
      ∙ ap (rule_in u) back
    where
      back : 4096 + r - 4096 ≡ r
      back = omega arith

  at_name : (i : ℕ) → Half i → rule_by_name s u (get_or (joined_names es fs) i 0) ≡ get_or (joined_rules es fs) i no_rule
  at_name i (in_site h) =
      ap (rule_by_name s u) (site-name i h) ∙ of_site (get_or (records_of es) i 0) (site_range i h).1 ∙ sym (site-rule i h)
  at_name i (in_tenant j p h) =
      ap (λ k. rule_by_name s u (get_or (joined_names es fs) k 0)) p
      ∙ ap (rule_by_name s u) (tenant-name j h)
      ∙ of_tenant (get_or (records_of fs) j 0)
      ∙ sym (tenant-rule j h)
      ∙ ap (λ k. get_or (joined_rules es fs) k no_rule) (sym p)

  -- looked up in the two books' bytes, a code stands for what stands at its index
  pub looked : (floors : Floors) (k i : ℕ) →
      i < length (system floors (take k (joined_rules es fs))) →
      rule_named floors s u (code_at (joined_names es fs) i) ≡ get_or (system floors (take k (joined_rules es fs))) i no_rule
  looked floors k zero h = refl
  looked floors k (suc zero) h = refl
  looked floors k (suc (suc j)) h =
      by_name floors (get_or (joined_names es fs) j 0) (joined-named.from_one j (omega (arith, high, names-many)))
      ∙ at_name j (half j high)
      ∙ sym (get_or-take k (joined_rules es fs) j no_rule low)
    where
      low : j < k
      low = omega (arith, length-take k (joined_rules es fs))

      high : j < length es + length fs
      high = omega (arith, length-take k (joined_rules es fs), rules-many)
