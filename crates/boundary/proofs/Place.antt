-- Every direction has its place in a ring: two neighbours between whose normals it lies. The turns to h of the edges change their sign
-- along the ring, since otherwise all normals lie on one side of h, where turns add up, and the ring does not come back to its first
-- edge.
use mathlib.Core.Path.{◌≡◌, refl, sym, subst}
use mathlib.Core.List.{List, [], ◌∷◌}
use mathlib.Core.Logic.{◌⊎◌, inl, inr}
use lib.IntN.{pos, neg_ℤ}
use lib.Signed.{clash_ℤ}
use Rattle.ints.specs.Order.{◌≤ᶻ◌, ◌<ᶻ◌}
use Rattle.ints.proofs.Ring.{⊝◌, ◌≐◌}
use Rattle.ints.proofs.Order.{pos-mul, pos-add_nn, pos_nn, pos-cancel, neg_pos, neg_nn, le_or_lt, lt_le, le_of_eq}
use Rattle.lp.specs.declared.Constraint.{Constraint}
use Rattle.model.specs.Scan.{reversed}
use Rattle.theory.proofs.Solver.{equal, C, slackᵖ, meetᵖ}
use Rattle.theory.proofs.Line.{reversedᵖ}
use Rattle.boundary.specs.Size.{turn}
use Rattle.boundary.proofs.Identities.{exchanged, turn-self, four-turns}
use Rattle.boundary.proofs.Ways.{Way, Some, All, all_map}

abbrev pub Turns : Constraint → Constraint → Constraint → Type 0
Turns D p q = pos 0 <ᶻ turn D p q

-- the normal of h lies between those of p and q
pub record AtPlace (D h p q : Constraint) : Type 0 where
  pub from_first : pos 0 ≤ᶻ turn D p h
  pub to-second : pos 0 ≤ᶻ turn D h q

pub reversed-turn : (D h q : Constraint) → turn D (reversed h) q ≡ neg_ℤ (turn D h q)
reversed-turn = equal (C ∷ C ∷ C ∷ []) (λ D h q. slackᵖ D (meetᵖ (reversedᵖ h) q) ≐ ⊝ slackᵖ D (meetᵖ h q)) refl

pub turn-reversed : (D h p : Constraint) → turn D p (reversed h) ≡ neg_ℤ (turn D p h)
turn-reversed = equal (C ∷ C ∷ C ∷ []) (λ D h p. slackᵖ D (meetᵖ p (reversedᵖ h)) ≐ ⊝ slackᵖ D (meetᵖ p h)) refl

-- ---- a ring is not on one side of h

module _ (D h k : Constraint) (k-side : Turns D h k) where
  -- on one side of h turns add up
  turns-add :
      (p q : Constraint) →
      Turns D h p →
      Turns D k p →
      Turns D p q →
      Turns D h q →
      Turns D k q
  turns-add p q at_p from-k p-q at-q =
      pos-cancel at_p
      (subst (λ z. pos 0 <ᶻ z) (sym (four-turns D h k p q)) (pos-add_nn (pos-mul k-side p-q) (pos_nn (pos-mul at-q from-k))))

  onward :
      (p : Constraint) (l : List Constraint) (e : Constraint) →
      Turns D h p →
      Turns D k p →
      Way (Turns D) p l e →
      All (Turns D h) l →
      Turns D h e →
      Turns D k e
  onward p [] e at_p from-k way side at-e = turns-add p e at_p from-k way at-e
  onward p (q ∷ l) e at_p from-k way side at-e =
      onward q l e side.0 (turns-add p q at_p from-k way.0 side.0) way.1 side.1 at-e

  pub not-one-side : (l : List Constraint) → Way (Turns D) k l k → All (Turns D h) l → ⊥
  not-one-side [] way side = clash_ℤ way (le_of_eq (turn-self D k))
  not-one-side (q ∷ l) way side = clash_ℤ (onward q l k side.0 way.0 way.1 side.1 k-side) (le_of_eq (turn-self D k))

-- ---- the change of sign

module _ (D h : Constraint) where
  placed : (p q : Constraint) → turn D h p ≤ᶻ pos 0 → pos 0 ≤ᶻ turn D h q → AtPlace D h p q
  placed p q before after =
      record { from_first = subst (λ z. pos 0 ≤ᶻ z) (sym (exchanged D h p)) (neg_nn before); to-second = after }

  abbrev Away : Constraint → Type 0
  Away q = turn D h q <ᶻ pos 0

  -- from an edge that does not turn on: the place, or none turns on
  falling : (p : Constraint) (l : List Constraint) (e : Constraint) → turn D h p ≤ᶻ pos 0 → Some (AtPlace D h) p l e ⊎ (All Away l × Away e)
  falling p [] e before = go (le_or_lt (pos 0) (turn D h e))
    where
      go : (pos 0 ≤ᶻ turn D h e) ⊎ Away e → AtPlace D h p e ⊎ (Unit {0} × Away e)
      go (inl after) = inl (placed p e before after)
      go (inr away) = inr (tt, away)
  falling p (q ∷ l) e before = go (le_or_lt (pos 0) (turn D h q)) (falling q l e)
    where
      later : Away q → Some (AtPlace D h) q l e ⊎ (All Away l × Away e) → Some (AtPlace D h) p (q ∷ l) e ⊎ (All Away (q ∷ l) × Away e)
      later away (inl s) = inl (inr s)
      later away (inr a) = inr ((away, a.0), a.1)

      go :
          (pos 0 ≤ᶻ turn D h q) ⊎ Away q →
          (turn D h q ≤ᶻ pos 0 → Some (AtPlace D h) q l e ⊎ (All Away l × Away e)) →
          Some (AtPlace D h) p (q ∷ l) e ⊎ (All Away (q ∷ l) × Away e)
      go (inl after) f = inl (inl (placed p q before after))
      go (inr away) f = later away (f (lt_le away))

  -- to an edge that turns on: the place, or all turn on
  rising : (p : Constraint) (l : List Constraint) (e : Constraint) → Turns D h e → Some (AtPlace D h) p l e ⊎ All (Turns D h) l
  rising p [] e after = inr tt
  rising p (q ∷ l) e after = go (le_or_lt (turn D h q) (pos 0)) (rising q l e after)
    where
      fell : Some (AtPlace D h) q l e ⊎ (All Away l × Away e) → Some (AtPlace D h) p (q ∷ l) e ⊎ All (Turns D h) (q ∷ l)
      fell (inl s) = inl (inr s)
      fell (inr a) = clash_ℤ after (lt_le a.1)

      later : Turns D h q → Some (AtPlace D h) q l e ⊎ All (Turns D h) l → Some (AtPlace D h) p (q ∷ l) e ⊎ All (Turns D h) (q ∷ l)
      later turns (inl s) = inl (inr s)
      later turns (inr a) = inr (turns, a)

      go :
          (turn D h q ≤ᶻ pos 0) ⊎ Turns D h q →
          Some (AtPlace D h) q l e ⊎ All (Turns D h) l →
          Some (AtPlace D h) p (q ∷ l) e ⊎ All (Turns D h) (q ∷ l)
      go (inl before) s = fell (falling q l e before)
      go (inr turns) s = later turns s

  -- every direction has its place
  pub place : (k : Constraint) (l : List Constraint) → Way (Turns D) k l k → Some (AtPlace D h) k l k
  place k l way = go (le_or_lt (turn D h k) (pos 0))
    where
      other-side : (q : Constraint) → Away q → Turns D (reversed h) q
      other-side q away = subst (λ z. pos 0 <ᶻ z) (sym (reversed-turn D h q)) (neg_pos away)

      fell : Some (AtPlace D h) k l k ⊎ (All Away l × Away k) → Some (AtPlace D h) k l k
      fell (inl s) = s
      fell (inr a) =
          absurd (not-one-side D (reversed h) k (other-side k a.1) l way (all_map Away (Turns D (reversed h)) other-side l a.0))

      rose : Turns D h k → Some (AtPlace D h) k l k ⊎ All (Turns D h) l → Some (AtPlace D h) k l k
      rose turns (inl s) = s
      rose turns (inr a) = absurd (not-one-side D h k turns l way a)

      go : (turn D h k ≤ᶻ pos 0) ⊎ Turns D h k → Some (AtPlace D h) k l k
      go (inl before) = fell (falling k l k before)
      go (inr turns) = rose turns (rising k l k turns)
