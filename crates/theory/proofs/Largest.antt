-- The largest slack that lawful rules can make. A vertex is where two of them meet, so its slack against a third is a determinant of
-- three rows, within 4·32,767²·1,000,000,000 = 4,294,705,156,000,000,000; in lowest terms it is no larger. The terms of a slack taken one
-- by one leave half as much again (`slack-small` of `model`), which is what the code asks.
use mathlib.Core.Path.{◌≡◌, refl, sym, subst}
use mathlib.Core.List.Memᴰ
use mathlib.Core.List.{List, [], ◌∷◌, Memᴰ}
use lib.IntN.{ℤ, pos, negsuc}
use Rattle.ints.specs.Within.{Within}
use Rattle.ints.specs.Gcd.{gcd2, gcd3}
use Rattle.ints.proofs.Ring.{◌⊕◌, ◌⊖◌, ◌⊗◌, ◌≐◌}
use Rattle.ints.proofs.Machine.{within_quot, within-factor}
use Rattle.ints.proofs.Determinant.{Boxed, determinant-small}
use Rattle.lp.specs.declared.Constraint.{Constraint}
use Rattle.lp.specs.declared.Functional.{Functional}
use Rattle.lp.specs.declared.Floors.{Floors}
use Rattle.lp.specs.declared.Tie.{Tie}
use Rattle.lp.specs.declared.Point.{Point}
use Rattle.lp.specs.declared.Outcome.TheVariants as outcome
use Rattle.lp.specs.Program.{constraint, slack, system}
use Rattle.lp.specs.Outcome.{meet, reduce}
use Rattle.lp.specs.Outcome as defined
use Rattle.lp.specs.Slack.{slack_of}
use Rattle.lp.specs.Range.{SmallConstraint, SmallSystem, SmallFloors}
use Rattle.model.proofs.Bounds.{floorX-small, floorY-small}
use Rattle.theory.proofs.Solver.{equal, C, slackᵖ, meetᵖ}
use Rattle.theory.proofs.Lists.{for-members}
use Rattle.theory.proofs.Reduction.{Multiple, multiple-slack, reduced-multiple}
use Rattle.theory.proofs.Vertex.{Vertex}
use Rattle.theory.proofs.Ties.{GoodTie}
use Rattle.theory.proofs.Meaning.{Means, outcome-means}

abbrev pub WithinLargest : ℤ → Type 0
WithinLargest z = Within 4294705156000000000 z

-- ---- where two rules meet

boxed : {r : Constraint} → SmallConstraint r → Boxed 32767 32767 r.a r.b
boxed h = record { across = h.a_small; up = h.b-small }

pub meeting-slack :
    {r p q : Constraint} →
    SmallConstraint r →
    SmallConstraint p →
    SmallConstraint q →
    WithinLargest (slack r (meet p q))
meeting-slack {r} {p} {q} h j k =
    subst WithinLargest
    (equal (C ∷ C ∷ C ∷ []) (λ r p q. (p.a ⊗ q.b ⊖ q.a ⊗ p.b) ⊗ r.c ⊕ (q.a ⊗ r.b ⊖ r.a ⊗ q.b) ⊗ p.c
    ⊕ (r.a ⊗ p.b ⊖ p.a ⊗ r.b) ⊗ q.c ≐ slackᵖ r (meetᵖ p q)) refl r p q)
    (determinant-small (boxed h) (boxed j) (boxed k) h.c-small j.c-small k.c-small)

-- and no smaller bound would do
pub largest_met :
    slack (constraint (negsuc 32766) (pos 32767) (pos 1000000000)) (meet (constraint (pos 32767) (negsuc 32766) (pos 1000000000))
    (constraint (pos 32767) (pos 32767) (pos 1000000000))) ≡ pos 4294705156000000000
largest_met = refl

-- ---- at a vertex, in lowest terms

member-small : (S : List Constraint) → SmallSystem S → (r : Constraint) → Memᴰ r S → SmallConstraint r
member-small [] h = λ r i. absurd (Memᴰ.not-nil i)
member-small (s ∷ S) h = for-members SmallConstraint s S h.0 (member-small S h.1)

module _ (S : List Constraint) (small : SmallSystem S) (v : Point) (x : Vertex S v) (r : Constraint) (i : Memᴰ r S) where
  pub vertex-slack : WithinLargest (slack r v)
  vertex-slack =
      subst (λ w. WithinLargest (slack r w)) (sym x.lowest)
      (within-factor m.positive (subst WithinLargest (sym (multiple-slack _ _ _ m r)) whole))
    where
      corner : Point
      corner = meet x.one x.other

      m : Multiple (pos (gcd3 corner.x corner.y corner.d)) (reduce corner) corner
      m = reduced-multiple corner x.crosses

      whole : WithinLargest (slack r corner)
      whole =
          meeting-slack (member-small S small r i) (member-small S small x.one x.one-member)
          (member-small S small x.other x.other-member)

  pub vertex-numerator : WithinLargest (slack_of r v).numerator
  vertex-numerator = within_quot (pos (gcd2 (slack r v) v.d)) vertex-slack

-- ---- at a best pair

module _ (t : Tie) (good : GoodTie t) (floors : Floors) (low : SmallFloors floors) (f : Functional) (rules : List Constraint)
    (small : SmallSystem rules) where
  pub best_numerators :
      (v : Point) →
      defined.outcome t floors f rules ≡ outcome.Optimal v →
      (r : Constraint) →
      Memᴰ r rules →
      WithinLargest (slack_of r v).numerator
  best_numerators v e r i =
      vertex-numerator (system floors rules) (floorX-small low, (floorY-small low, small)) v
      (subst (Means t f (system floors rules)) e (outcome-means t good floors f rules)).peak.vertex r
      (Memᴰ.tail (Memᴰ.tail i))
