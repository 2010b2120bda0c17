-- From what reading both books left in the runs to the answer: a refused site, a refused tenant, or the plan of the single list, which is
-- always made, since the numbers of accepted books are all in range and the runs have room.
use Rattle.std.specs.Prelude.{Option, Some, is_some, IsSome, Ok}
use mathlib.Core.Path.{◌≡◌, refl, sym, ◌∙◌, ap, subst}
use mathlib.Core.List.{List, [], ◌∷◌, ◌++◌, map}
use Prim.Native.Nat.{ℕ, zero, suc, ◌+◌, ◌-◌, ◌≤◌, ◌<◌}
use native.Mathlib.Omega.{arith}
use native.Mathlib.Decide.{dec_lt}
use lib.ListN.{length, get_or, length-append, get_or-append}
use lib.Seq.{get_or-append-add}
use lib.IntN.{ℤ}
use Rattle.lp.specs.declared.Constraint.{Constraint}
use Rattle.lp.specs.declared.Terms.{Terms}
use Rattle.lp.specs.Range.{SmallSystem}
use Rattle.lp.specs.Document.{tie}
use Rattle.records.specs.Layout.{v2}
use Rattle.book.specs.Reading.{Reading, refused, accepted, Entry, read_of, rules_of, records_of}
use Rattle.book.proofs.Bounds.{chain-count, count_room, index-within, rules-small, terms-small}
use Rattle.answers.specs.declared.Plan.{Plan}
use Rattle.engine.specs.declared.Solution.{Solution}
use Rattle.engine.specs.Solving.{solution_of, solved_of}
use Rattle.engine.proofs.Tests.{solved}
use Rattle.model.specs.Step.{walk}
use Rattle.plans.specs.Planning.{PlannedAs, plan_of}
use Rattle.plans.proofs.Finish.{finished}
use Rattle.joining.specs.declared.read.Heads.{Heads}
use Rattle.joining.specs.Joining.{tenant_name, joined_names, joined_rules, joined_of, JoinedBy, Joins}
use Rattle.joint_terms.specs.Terms.{joined_terms}
use Rattle.joining.specs.Running.{Laid, ReadBy, ReadsBoth, Renaming, Renamed}
use Rattle.joining.proofs.Both.{length-rules, length-records}
use Rattle.joint_terms.proofs.Compared.{joined_small}

-- ---- of lists

pub small_append : (S T : List Constraint) → SmallSystem S → SmallSystem T → SmallSystem (S ++ T)
small_append [] T h k = k
small_append (r ∷ S) T h k = (h.0, small_append S T h.1 k)

-- the name at a place of the tenant's
pub tenant-named : (l : List ℕ) (k : ℕ) → k < length l → get_or (map tenant_name l) k 0 ≡ 4096 + get_or l k 0
tenant-named [] k h = absurd (let z : ⊥ = omega arith in z)
tenant-named (x ∷ l) zero h = refl
tenant-named (x ∷ l) (suc k) h = tenant-named l k (omega arith)

-- ---- two books that read as r

module _ (s u : List ℕ) (r : Heads) (names : List ℕ) (l : List ℤ) (read : ReadsBoth s u (Ok r) names l) where
  module _
      (t t' : Terms) (es fs : List Entry)
      (e : read_of v2 s ≡ accepted t es) (q : read_of v2 u ≡ accepted t' fs)
      (same : r ≡ record { site = record { terms = t; n = length es }; tenant = record { terms = t'; n = length fs } })
      (laid : Laid es fs names l) where
    site-count : r.site.n ≡ length es
    site-count = ap (λ (h : Heads). h.site.n) same

    tenant-count : r.tenant.n ≡ length fs
    tenant-count = ap (λ (h : Heads). h.tenant.n) same

    few-rules : r.site.n + r.tenant.n ≤ 8190
    few-rules =
        omega (arith, site-count, tenant-count, chain-count v2 s e, count_room v2 s e, chain-count v2 u q, count_room v2 u q)

    renaming : Renaming names r.site.n r.tenant.n
    renaming =
        record {
          room = omega (arith, site-count, tenant-count, laid.records);
          small = λ i h k. at (i - length es) (omega (arith, site-count)) (omega (arith, site-count, tenant-count));
        }
      where
        at : {i : ℕ} (j : ℕ) → i ≡ length es + j → j < length fs → get_or names i 0 < 4096
        at {i} j p less =
            omega (
              arith,
              ap (λ k. get_or names k 0) p,
              laid.tenant-names j less,
              (index-within v2 u q j less).1,
              count_room v2 u q,
            )

    together : SmallSystem (joined_rules es fs)
    together = small_append (rules_of es) (rules_of fs) (rules-small v2 s e) (rules-small v2 u q)

    -- the engine walks along the single list
    planned : solved_of (joined_terms r.site.terms r.tenant.terms) l (r.site.n + r.tenant.n)
        ≡ Some
        (solution_of (joined_terms t t').objective
        (walk tie (joined_terms t t').floors (joined_terms t t').objective (joined_rules es fs)))
    planned =
        (λ i. solved_of (joined_terms (same i).site.terms (same i).tenant.terms) l ((same i).site.n + (same i).tenant.n))
        ∙ solved (joined_terms t t') l (length es + length fs) (joined_small t t' (terms-small v2 s e) (terms-small v2 u q))
        laid.room (subst SmallSystem (sym laid.rules) together)
        ∙ ap (λ (S : List Constraint). Some
        (solution_of (joined_terms t t').objective (walk tie (joined_terms t t').floors (joined_terms t t').objective S))) laid.rules

    module _ (names' : List ℕ) (renamed : Renamed names r.site.n r.tenant.n names') where
      agree : (i : ℕ) → i < length (joined_rules es fs) → get_or names' i 0 ≡ get_or (joined_names es fs) i 0
      agree i less = go (dec_lt i (length es))
        where
          total : length (joined_rules es fs) ≡ length es + length fs
          total = omega (arith, length-append (rules_of es) (rules_of fs), length-rules es, length-rules fs)

          behind : (j : ℕ) → i ≡ length es + j → j < length fs → get_or names' i 0 ≡ get_or (joined_names es fs) i 0
          behind j p h =
              renamed.tenant i (omega (arith, site-count)) (omega (arith, site-count, tenant-count))
              ∙ ap (λ k. 4096 + get_or names k 0) p
              ∙ ap (λ k. 4096 + k) (laid.tenant-names j h)
              ∙ sym (tenant-named (records_of fs) j (omega (arith, length-records fs)))
              ∙ sym (get_or-append-add (records_of es) (map tenant_name (records_of fs)) j 0)
              ∙ ap (λ n. get_or (joined_names es fs) (n + j) 0) (length-records es)
              ∙ ap (λ k. get_or (joined_names es fs) k 0) (sym p)

          go : Dec (i < length es) → get_or names' i 0 ≡ get_or (joined_names es fs) i 0
          go (yes early) =
              renamed.site i (omega (arith, site-count))
              ∙ laid.site-names i early
              ∙ sym (get_or-append (records_of es) (map tenant_name (records_of fs)) 0 i (omega (arith, length-records es)))
          go (no late) = behind (i - length es) (omega arith) (omega (arith, total))

      answer : {x : Solution} →
          Some x ≡ solved_of (joined_terms r.site.terms r.tenant.terms) l (r.site.n + r.tenant.n) →
          {p : Plan} →
          p ≡ plan_of names' x →
          PlannedAs (joined_terms t t') (joined_names es fs) (joined_rules es fs) p
      answer {x} w {p} f =
          subst (PlannedAs (joined_terms t t') (joined_names es fs) (joined_rules es fs)) (sym (f ∙ ap (plan_of names') walked))
          (finished (joined_terms t t') (joined_names es fs) (joined_rules es fs)
          (joined_small t t' (terms-small v2 s e) (terms-small v2 u q)).floors-small together names' agree)
        where
          walked : x ≡ solution_of (joined_terms t t').objective
              (walk tie (joined_terms t t').floors (joined_terms t t').objective (joined_rules es fs))
          walked = let both = w ∙ planned in cc

  -- ---- what follows from two accepted books follows

  either : {A : Type 0} →
      ((t t' : Terms) (es fs : List Entry) →
      read_of v2 s ≡ accepted t es →
      read_of v2 u ≡ accepted t' fs →
      r ≡ record { site = record { terms = t; n = length es }; tenant = record { terms = t'; n = length fs } } →
      Laid es fs names l →
      A) →
      A
  either {A} f = go (read_of v2 s) (read_of v2 u) refl refl read.reads
    where
      go : (x y : Reading) → read_of v2 s ≡ x → read_of v2 u ≡ y → ReadBy x y (Ok r) names l → A
      go (refused n i) y e q h = absurd (let z : ◌≡◌ {A = ℕ} 0 1 = cc in let b : ⊥ = omega arith in b)
      go (accepted t es) (refused n i) e q h = absurd (let z : ◌≡◌ {A = ℕ} 0 1 = cc in let b : ⊥ = omega arith in b)
      go (accepted t es) (accepted t' fs) e q h = f t t' es fs e q (let both = h.0 in cc) h.1

  pub rules-few : r.site.n + r.tenant.n ≤ 8190
  rules-few = either few-rules

  pub renames : Renaming names r.site.n r.tenant.n
  renames = either renaming

  -- the engine plans them
  pub always_planned : {x : Option Solution} →
      x ≡ solved_of (joined_terms r.site.terms r.tenant.terms) l (r.site.n + r.tenant.n) →
      IsSome x
  always_planned e = either (λ t t' es fs e' q same laid. ap is_some (e ∙ planned t t' es fs e' q same laid))

  pub joined-planned : (names' : List ℕ) →
      Renamed names r.site.n r.tenant.n names' →
      {x : Solution} →
      Some x ≡ solved_of (joined_terms r.site.terms r.tenant.terms) l (r.site.n + r.tenant.n) →
      {p : Plan} →
      p ≡ plan_of names' x →
      Joins s u (Ok p)
  joined-planned names' renamed {x} w {p} f =
      either
      (λ t t' es fs e q same laid. record {
        answered =
            subst (λ (y : Reading). JoinedBy (joined_of y (read_of v2 u)) (Ok p)) (sym e)
            (subst (λ (y : Reading). JoinedBy (joined_of (accepted t es) y) (Ok p)) (sym q)
            (answer t t' es fs e q same laid names' renamed w f));
      })
