-- The theorems of request 110's list. A point is listed exactly when it is a corner; the list rises strictly; it is empty exactly when no
-- pair is allowed; it depends on which rules there are, not on their order or how often they stand; and a rising list of exactly the
-- corners is the list that is meant, which is what code has to show.
use mathlib.Core.Path.{◌≡◌, refl, sym, ◌∙◌, ap, subst}
use mathlib.Core.List.Memᴰ
use mathlib.Core.List.{List, [], ◌∷◌, Memᴰ}
use mathlib.Core.Logic.{◌⊎◌, inl, inr, ◌↔◌}
use Prim.Native.Nat.{◌≤◌}
use lib.ListN.{length}
use lib.IntN.{ℤ, pos, neg_ℤ, ◌+ℤ◌, ◌-ℤ◌, ◌*ℤ◌, +ℤ_invr}
use lib.Signed.{clash_ℤ}
use Rattle.ints.specs.Order.{◌<ᶻ◌}
use Rattle.ints.specs.Gcd.{gcd3}
use Rattle.ints.proofs.Ring.{ring, ◌⊕◌, ◌⊖◌, ◌⊗◌, ⊝◌, ◌≐◌, con}
use Rattle.ints.proofs.Order.{le_of_eq, zero-cancel, Sign, minus, nought, plus, sign, neg_pos}
use Rattle.lp.specs.declared.Constraint.{Constraint}
use Rattle.lp.specs.declared.Floors.{Floors}
use Rattle.lp.specs.declared.Functional.{Functional}
use Rattle.lp.specs.declared.Point.{Point}
use Rattle.lp.specs.declared.Outcome.{Outcome}
use Rattle.lp.specs.declared.Outcome.TheVariants as outcome
use Rattle.lp.specs.Program.{functional, slack, Feasible, between, system}
use Rattle.lp.specs.Textbook.{Infeasible}
use Rattle.lp.specs.Outcome.{det, meet, reduce, allowed}
use Rattle.lp.specs.Outcome as defined
use Rattle.lp.specs.Document.{tie, AlikeInRules}
use Rattle.lp.specs.Corners.{Corner, Rising, arranged, corners_in, corners_of}
use Rattle.theory.proofs.Solver.{equal, C, P, Z, slackᵖ, detᵖ, meetᵖ, betweenᵖ}
use Rattle.theory.proofs.Reduction.{Multiple, multiple-slack, reduced-multiple, reduced-proper, reduced-lowest, lowest-unique}
use Rattle.theory.proofs.Vertex.{Vertex, vertex-proper, vertex-lowest}
use Rattle.theory.proofs.Ties.{tie_good}
use Rattle.theory.proofs.Enumeration.{allowed_vertices, vertex_of, feasible_of, feasible-listed, none_allowed}
use Rattle.theory.proofs.Meaning.{Means, outcome-means, system-members, alike_members}
use Rattle.corner_theory.proofs.Order.{Proper}
use Rattle.corner_theory.proofs.Rising.{AllProper, arranged-member, member-arranged, arranged-rising, rising-unique, rising-few}

-- ---- corners are the allowed vertices

module _ (S : List Constraint) (v : Point) where
  -- where two lines meet, both hold with equality, in lowest terms too
  module _ (r s : Constraint) (c : pos 0 <ᶻ det r s) where
    tight : (q : Constraint) → slack q (meet r s) ≡ pos 0 → slack q (reduce (meet r s)) ≡ pos 0
    tight q e =
        zero-cancel (reduced-multiple (meet r s) c).positive
        (multiple-slack (pos (gcd3 (meet r s).x (meet r s).y (meet r s).d)) (reduce (meet r s)) (meet r s)
        (reduced-multiple (meet r s) c) q
        ∙ e)

    first-tight : slack r (reduce (meet r s)) ≡ pos 0
    first-tight = tight r (equal (C ∷ C ∷ []) (λ r s. slackᵖ r (meetᵖ r s) ≐ con (pos 0)) refl r s)

    second-tight : slack s (reduce (meet r s)) ≡ pos 0
    second-tight = tight s (equal (C ∷ C ∷ []) (λ r s. slackᵖ s (meetᵖ r s) ≐ con (pos 0)) refl r s)

  pub vertex-corner : Vertex S v → Feasible S v → Corner S v
  vertex-corner x f =
      record {
        feasible = f;
        one = x.one;
        other = x.other;
        one-member = x.one-member;
        other-member = x.other-member;
        not_parallel =
            λ e. clash_ℤ x.crosses (le_of_eq (ap (λ z. z -ℤ x.other.a *ℤ x.one.b) e ∙ +ℤ_invr (x.other.a *ℤ x.one.b)));
        one-tight = subst (λ z. slack x.one z ≡ pos 0) (sym x.lowest) (first-tight x.one x.other x.crosses);
        other-tight = subst (λ z. slack x.other z ≡ pos 0) (sym x.lowest) (second-tight x.one x.other x.crosses);
        lowest = vertex-lowest S v x;
      }

  -- two equations that are not parallel have one solution: v is where the lines meet
  meets :
      (r s : Constraint) →
      pos 0 <ᶻ det r s →
      pos 0 <ᶻ v.d →
      slack r v ≡ pos 0 →
      slack s v ≡ pos 0 →
      Corner S v →
      v ≡ reduce (meet r s)
  meets r s c h e f k =
      lowest-unique v w h (reduced-proper m c) k.lowest (reduced-lowest m c)
      (record { no_dx = zero-cancel multiple.positive on-dx; no_dy = zero-cancel multiple.positive on-dy })
    where
      m : Point
      m = meet r s

      w : Point
      w = reduce m

      g : ℤ
      g = pos (gcd3 m.x m.y m.d)

      multiple : Multiple g w m
      multiple = reduced-multiple m c

      both : (p q : ℤ) → p *ℤ slack r v -ℤ q *ℤ slack s v ≡ pos 0
      both p q = (λ i. p *ℤ e i -ℤ q *ℤ f i) ∙ ring 2 (λ p q. p ⊗ con (pos 0) ⊖ q ⊗ con (pos 0) ≐ con (pos 0)) refl p q

      on-dx : g *ℤ (between v w).dx ≡ pos 0
      on-dx =
          equal (Z ∷ P ∷ P ∷ []) (λ g v w. g ⊗ (betweenᵖ v w).dx ≐ (g ⊗ w.x) ⊗ v.d ⊖ v.x ⊗ (g ⊗ w.d)) refl g v w
          ∙ (λ i. multiple.on-x i *ℤ v.d -ℤ v.x *ℤ multiple.on-d i)
          ∙ equal (C ∷ C ∷ P ∷ []) (λ r s v. (betweenᵖ v (meetᵖ r s)).dx ≐ s.b ⊗ slackᵖ r v ⊖ r.b ⊗ slackᵖ s v) refl r s v
          ∙ both s.b r.b

      on-dy : g *ℤ (between v w).dy ≡ pos 0
      on-dy =
          equal (Z ∷ P ∷ P ∷ []) (λ g v w. g ⊗ (betweenᵖ v w).dy ≐ (g ⊗ w.y) ⊗ v.d ⊖ v.y ⊗ (g ⊗ w.d)) refl g v w
          ∙ (λ i. multiple.on-y i *ℤ v.d -ℤ v.y *ℤ multiple.on-d i)
          ∙ equal (C ∷ C ∷ P ∷ []) (λ r s v. (betweenᵖ v (meetᵖ r s)).dy ≐ (⊝ s.a) ⊗ slackᵖ r v ⊖ (⊝ r.a) ⊗ slackᵖ s v) refl r s v
          ∙ both (neg_ℤ s.a) (neg_ℤ r.a)

  pub corner-vertex : Corner S v → Vertex S v
  corner-vertex k = go (sign (det k.one k.other))
    where
      go : Sign (det k.one k.other) → Vertex S v
      go (plus c) =
          record {
            one = k.one;
            other = k.other;
            one-member = k.one-member;
            other-member = k.other-member;
            crosses = c;
            lowest = meets k.one k.other c k.feasible.proper k.one-tight k.other-tight k;
          }
      go (minus n) =
          let c =
          subst (λ z. pos 0 <ᶻ z) (equal (C ∷ C ∷ []) (λ r s. ⊝ detᵖ r s ≐ detᵖ s r) refl k.one k.other) (neg_pos n) in
          record {
            one = k.other;
            other = k.one;
            one-member = k.other-member;
            other-member = k.one-member;
            crosses = c;
            lowest = meets k.other k.one c k.feasible.proper k.other-tight k.one-tight k;
          }
      go (nought e) =
          absurd (k.not_parallel
          (ring 2 (λ x y. x ≐ (x ⊖ y) ⊕ y) refl (k.one.a *ℤ k.other.b) (k.other.a *ℤ k.one.b)
          ∙ ap (λ z. z +ℤ k.other.a *ℤ k.one.b) e
          ∙ ring 1 (λ y. con (pos 0) ⊕ y ≐ y) refl (k.other.a *ℤ k.one.b)))

-- ---- the theorems

module _ (S : List Constraint) where
  all-proper : AllProper (allowed_vertices S)
  all-proper v i =
      record { positive = vertex-proper S v (vertex_of S v i); lowest = vertex-lowest S v (vertex_of S v i) }

  -- a point is listed exactly when it is a corner
  pub listed-exactly : (v : Point) → Memᴰ v (corners_in S) ↔ Corner S v
  listed-exactly v = (
    (λ i. let j = arranged-member (allowed_vertices S) v i in vertex-corner S v (vertex_of S v j) (feasible_of S v j)),
    (λ k. member-arranged (allowed_vertices S) all-proper v (feasible-listed S v (corner-vertex S v k) k.feasible)),
  )

  -- the list rises strictly: so none stands twice
  pub corners-rise : Rising (corners_in S)
  corners-rise = arranged-rising (allowed_vertices S) all-proper

  -- a rising list of exactly the corners is this one
  pub corners-unique : (l : List Point) → Rising l → ((v : Point) → Memᴰ v l ↔ Corner S v) → l ≡ corners_in S
  corners-unique l r exactly =
      rising-unique l (corners_in S) r corners-rise (λ v i. (listed-exactly v).1 ((exactly v).0 i))
      (λ v i. (exactly v).1 ((listed-exactly v).0 i))

  -- where m has every corner, there are no more corners than m has points
  pub corners-few : (m : List Point) → ((v : Point) → Corner S v → Memᴰ v m) → length (corners_in S) ≤ length m
  corners-few m has = rising-few (corners_in S) m corners-rise (λ v i. has v ((listed-exactly v).0 i))

corner-members :
    (S S' : List Constraint) →
    ((r : Constraint) → Memᴰ r S → Memᴰ r S') →
    ((r : Constraint) → Memᴰ r S' → Memᴰ r S) →
    (v : Point) →
    Corner S v →
    Corner S' v
corner-members S S' to from v k =
    record {
      feasible = record { proper = k.feasible.proper; kept = λ r i. k.feasible.kept r (from r i) };
      one = k.one;
      other = k.other;
      one-member = to k.one k.one-member;
      other-member = to k.other k.other-member;
      not_parallel = k.not_parallel;
      one-tight = k.one-tight;
      other-tight = k.other-tight;
      lowest = k.lowest;
    }

-- the list depends on which constraints there are
pub corners-by-members :
    (S S' : List Constraint) →
    ((r : Constraint) → Memᴰ r S → Memᴰ r S') →
    ((r : Constraint) → Memᴰ r S' → Memᴰ r S) →
    corners_in S ≡ corners_in S'
corners-by-members S S' to from =
    corners-unique S' (corners_in S) (corners-rise S)
    (λ v. (
      (λ i. corner-members S S' to from v ((listed-exactly S v).0 i)),
      (λ k. (listed-exactly S v).1 (corner-members S' S from to v k)),
    ))

module _ (floors : Floors) where
  -- .. and not on their order
  pub corners-order-free : (l m : List Constraint) → AlikeInRules l m → corners_of floors l ≡ corners_of floors m
  corners-order-free l m alike =
      corners-by-members (system floors l) (system floors m) (members l m (alike_members l m alike))
      (members m l (alike_members m l (λ r. sym (alike r))))
    where
      members :
          (l m : List Constraint) →
          ((r : Constraint) → Memᴰ r l → Memᴰ r m) →
          (r : Constraint) →
          Memᴰ r (system floors l) →
          Memᴰ r (system floors m)
      members l m to = system-members tie tie_good floors (functional (pos 0) (pos 0)) l m to

  -- an allowed pair exists, then a corner does
  corner_or_none : (rules : List Constraint) → ((v : Point) × Corner (system floors rules) v) ⊎ Infeasible (system floors rules)
  corner_or_none rules =
      go (defined.outcome tie floors level rules) (outcome-means tie tie_good floors level rules)
    where
      level : Functional
      level = functional (pos 0) (pos 0)

      S : List Constraint
      S = system floors rules

      go : (o : Outcome) → Means tie level S o → ((v : Point) × Corner S v) ⊎ Infeasible S
      go outcome.Infeasible m = inr m
      go (outcome.Unbounded s d) m = inl (s, vertex-corner S s m.start.vertex m.start.feasible)
      go (outcome.Optimal v) m = inl (v, vertex-corner S v m.peak.vertex m.peak.feasible)

  -- an impossible book has no corner, and only such a book
  pub no_corner_exactly : (rules : List Constraint) → (corners_of floors rules ≡ []) ↔ Infeasible (system floors rules)
  no_corner_exactly rules = ((λ e. go e (corner_or_none rules)), (λ none. ap arranged (none_allowed (system floors rules) none)))
    where
      go :
          corners_of floors rules ≡ [] →
          ((v : Point) × Corner (system floors rules) v) ⊎ Infeasible (system floors rules) →
          Infeasible (system floors rules)
      go e (inl (v, k)) =
          absurd (Memᴰ.not-nil (subst (λ l. Memᴰ v l) e ((listed-exactly (system floors rules) v).1 k)))
      go e (inr none) = none
