-- The tests of a slip's facts say what document 02's words say, both ways.
use mathlib.Core.Path.{◌≡◌, sym, subst}
use mathlib.Core.List.{List}
use mathlib.Core.Bool.{Bool, true, ◌&&◌}
use mathlib.Core.Logic.{◌↔◌}
use Prim.Native.Nat.{ℕ}
use lib.Dec.{T}
use lib.IntN.{ℤ, pos, ◌*ℤ◌}
use lib.Signed.{le_z, lt_z, le_z_yes}
use Rattle.ints.proofs.Order.{le_of_eq}
use Rattle.lp.specs.declared.Constraint.{Constraint}
use Rattle.lp.specs.declared.Terms.{Terms}
use Rattle.lp.specs.declared.Point.{Point}
use Rattle.lp.specs.declared.Ray.{Ray}
use Rattle.lp.specs.declared.Outcome.{Outcome}
use Rattle.lp.specs.declared.Outcome.TheVariants as outcome
use Rattle.lp.specs.Program.{slack, along, rise, system}
use Rattle.lp.specs.Outcome.{every, keeps, allowed}
use Rattle.lp.specs.Certificate.{is_zero}
use Rattle.lp.specs.Document.{same}
use Rattle.lp.specs.Textbook.{LawfulDirection}
use Rattle.theory.proofs.Lists.{every-at, every_of, is_true}
use Rattle.slip.specs.declared.Weights.{Weights}
use Rattle.slip.specs.Facts.{shares, ranges, pair_in_range, ray_in_range, rule_at, sums, tight_all, is_allowed, is_lawful, in_range, holds}
use Rattle.slip.proofs.Shares.{both}
use Rattle.slip_theory.specs.Words.{Allowed, InWords}
use Rattle.slip_theory.proofs.Meaning.{le_of, lt_of, same_of}

same_test : {a b : ℤ} → a ≡ b → same a b ≡ true
same_test {a} {b} e = λ i. is_true (le_z a b) (le_of_eq e).le i && is_true (le_z b a) (le_of_eq (sym e)).le i

module _ (t : Terms) (records : List ℕ) (rules : List Constraint) where
  abbrev S : List Constraint
  S = system t.floors rules

  allowed-exactly : (v : Point) → (is_allowed t records rules v ≡ true) ↔ Allowed t records rules v
  allowed-exactly v = (
    (λ e r i. le_z_yes (every-at (λ r. keeps r v) S (subst T (sym e) tt) r i)),
    (λ f. is_true (allowed S v) (every_of (λ r. keeps r v) S (λ r i. (f r i).le))),
  )

  lawful-exactly : (d : Ray) →
      ray_in_range d ≡ true →
      (is_lawful t records rules d ≡ true) ↔ LawfulDirection rules t.objective d
  lawful-exactly d ranged = (
    (λ e. let x = both stays gains e in
        record {
          dx-not-negative = le_of (pos 0) d.dx (both (le_z (pos 0) d.dx) (le_z d.dx (pos 32767)) rays.0).0;
          dy-not-negative = le_of (pos 0) d.dy (both (le_z (pos 0) d.dy) (le_z d.dy (pos 32767)) rays.1).0;
          never_leaves = λ r i. le_z_yes (every-at (λ r. le_z (rise r d) (pos 0)) rules (subst T (sym x.0) tt) r i);
          gains = lt_of (pos 0) (along t.objective d) x.1;
        }),
    (λ l. λ i. is_true stays (every_of (λ r. le_z (rise r d) (pos 0)) rules (λ r j. (l.never_leaves r j).le)) i
        && is_true gains l.gains.lt i),
  )
    where
      stays : Bool
      stays = every (λ r. le_z (rise r d) (pos 0)) rules

      gains : Bool
      gains = lt_z (pos 0) (along t.objective d)

      rays : (ranges (pos 0) d.dx (pos 32767) ≡ true) × (ranges (pos 0) d.dy (pos 32767) ≡ true)
      rays = both (ranges (pos 0) d.dx (pos 32767)) (ranges (pos 0) d.dy (pos 32767)) ranged

  -- for a slip whose fields are in range, the facts hold exactly if document 02's words do
  pub facts_in_words : (o : Outcome) (w : Weights) →
      in_range t records rules o w ≡ true →
      (holds t records rules o w ≡ true) ↔ InWords t records rules o w
  facts_in_words outcome.Infeasible w ranged = (
    (λ e. let c = both (is_zero a && is_zero b) (lt_z k (pos 0)) e in
        let ab = both (is_zero a) (is_zero b) c.0 in
        record {
          a_cancels = same_of a (pos 0) ab.0;
          b_cancels = same_of b (pos 0) ab.1;
          c-falls = lt_of k (pos 0) c.1;
        }),
    (λ c. λ i. same_test c.a_cancels i && same_test c.b_cancels i && is_true (lt_z k (pos 0)) c.c-falls.lt i),
  )
    where
      a : ℤ
      a = (sums t records rules (shares w)).a

      b : ℤ
      b = (sums t records rules (shares w)).b

      k : ℤ
      k = (sums t records rules (shares w)).c
  facts_in_words (outcome.Unbounded v d) w ranged = (
    (λ e. let x = both (is_allowed t records rules v) (is_lawful t records rules d) e in
        ((allowed-exactly v).0 x.0, (lawful-exactly d (both (pair_in_range v) (ray_in_range d) ranged).1).0 x.1)),
    (λ x. λ i. (allowed-exactly v).1 x.0 i && (lawful-exactly d (both (pair_in_range v) (ray_in_range d) ranged).1).1 x.1 i),
  )
  facts_in_words (outcome.Optimal v) w ranged = (
    (λ e. let last = both (first && tight && same a (w.scale *ℤ t.objective.p)) (same b (w.scale *ℤ t.objective.q)) e in
        let third = both (first && tight) (same a (w.scale *ℤ t.objective.p)) last.0 in
        let two = both first tight third.0 in
        record {
          allowed = (allowed-exactly v).0 two.0;
          tight = λ s i. same_of (slack (rule_at t records rules s.code) v) (pos 0)
              (is_true (is_zero (slack (rule_at t records rules s.code) v))
              (every-at (λ s. is_zero (slack (rule_at t records rules s.code) v)) (shares w) (subst T (sym two.1) tt) s i));
          a_sum = same_of a (w.scale *ℤ t.objective.p) third.1;
          b-sum = same_of b (w.scale *ℤ t.objective.q) last.1;
        }),
    (λ s. λ i. (allowed-exactly v).1 s.allowed i
        && is_true tight (every_of (λ u. is_zero (slack (rule_at t records rules u.code) v)) (shares w)
        (λ u j. subst T (sym (same_test (s.tight u j))) tt)) i
        && same_test s.a_sum i && same_test s.b-sum i),
  )
    where
      a : ℤ
      a = (sums t records rules (shares w)).a

      b : ℤ
      b = (sums t records rules (shares w)).b

      first : Bool
      first = is_allowed t records rules v

      tight : Bool
      tight = tight_all t records rules v (shares w)
