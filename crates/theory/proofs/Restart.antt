-- The start point when a constraint breaks it: it moves to the tightest point on that constraint's line, or a certificate shows that no
-- point is left.
use Rattle.std.specs.Prelude.{Option, None, Some, Result, Ok, Err}
use mathlib.Core.Path.{◌≡◌, refl, sym, ◌∙◌, ap, subst}
use mathlib.Core.List.{List, [], ◌∷◌, ◌++◌, Memᴰ}
use mathlib.Core.Bool.{Bool, true, false, not, ◌&&◌}
use mathlib.Core.Logic.{◌⊎◌, inl, inr}
use Prim.Native.Nat.{ℕ}
use lib.Dec.{T, T_not}
use lib.ListN.{length}
use lib.IntN.{ℤ, pos, neg_ℤ, ◌*ℤ◌, zero-*ℤ, neg_ℤ-neg_ℤ}
use lib.Signed.{clash_ℤ}
use Rattle.ints.specs.Order.{◌≤ᶻ◌, ◌<ᶻ◌}
use Rattle.ints.proofs.Ring.{◌⊕◌, ◌⊗◌, ⊝◌, ◌≐◌}
use Rattle.ints.proofs.Order.{nn_zero, neg_pos, pos_neg, neg_nn, pos_nn, pos-cancel, pos-add_nn, le_or_lt}
use Rattle.lp.specs.declared.Constraint.{Constraint}
use Rattle.lp.specs.declared.Point.{Point}
use Rattle.lp.specs.declared.Tie.{Tie}
use Rattle.lp.specs.Program.{slack, Keeps}
use Rattle.lp.specs.Outcome.{above, det, meet, reduce, tie_order}
use Rattle.lp.specs.Certificate.{is_zero}
use Rattle.lp.specs.declared.Certificate.{Certificate}
use Rattle.model.specs.declared.Met.{Met}
use Rattle.model.specs.Scan.{facing, direction, tightest, first_broken}
use Rattle.model.specs.Step.{alone, checked, resettled, restart}
use Rattle.theory.proofs.Solver.{nn_by, pos-by, C, P, slackᵖ, detᵖ}
use Rattle.theory.proofs.Lists.{At, at-member, and_left, and_right, and_both}
use Rattle.theory.proofs.Extension.{Extends, extended, feasible_shrinks, feasible-keeps-new}
use Rattle.theory.proofs.Direction.{Upward, Null}
use Rattle.theory.proofs.Lexicographic.{Up}
use Rattle.theory.proofs.Step.{Tight, step-below, step-on}
use Rattle.theory.proofs.Tightest.{Outcome_of_scan, Outcome_of_check, scan_finds, check-finds}
use Rattle.theory.proofs.Farkas.{is-zero}
use Rattle.theory.proofs.Ties.{GoodTie, tie-upward}
use Rattle.theory.proofs.Peak.{Peak, Falls, lowest-peak, walked-up, no_line}
use Rattle.theory.proofs.Conflict.{Certified, conflict-certified, alone-certified}

abbrev pub Restarted : Tie → List Constraint → Result Point Certificate → Type 0
Restarted t S (Ok s) = Peak (Up (tie_order t)) S s
Restarted t S (Err c) = Certified S c

module _ (t : Tie) (good : GoodTie t) (S : List Constraint) (h : Constraint) (s : Point) (peak : Peak (Up (tie_order t)) S s)
    (breaks : slack h s <ᶻ pos 0) (falls : Falls (Up (tie_order t)) (S ++ (h ∷ []))) where
  abbrev S' : List Constraint
  S' = S ++ (h ∷ [])

  abbrev O : Upward (Up (tie_order t))
  O = tie-upward t good

  ext : Extends S h S'
  ext = extended S h

  abbrev side : Bool
  side = above (tie_order t) (direction h)

  proper : pos 0 <ᶻ s.d
  proper = peak.feasible.proper

  -- a broken constraint without a direction has c below 0
  negative : h.a ≡ pos 0 → h.b ≡ pos 0 → h.c <ᶻ pos 0
  negative a b =
      pos_neg
      (pos-cancel proper
      (pos-by (C ∷ P ∷ []) (λ h v. v.d ⊗ ⊝ h.c ≐ ⊝ slackᵖ h v ⊕ ⊝ h.a ⊗ v.x ⊕ ⊝ h.b ⊗ v.y) refl h s
      (pos-add_nn (pos-add_nn (neg_pos breaks) (nought h.a s.x a)) (nought h.b s.y b))))
    where
      nought : (y z : ℤ) → y ≡ pos 0 → pos 0 ≤ᶻ neg_ℤ y *ℤ z
      nought y z e = nn_zero (ap (λ x. neg_ℤ x *ℤ z) e ∙ zero-*ℤ z)

  module _ (j : ℕ) (k : Constraint) (tight : Tight S (facing side h) k) (at-k : At S j k) where
    abbrev p : Point
    p = meet k (facing side h)

    moved : ((m : Constraint) → Memᴰ m S → Keeps m p) → Peak (Up (tie_order t)) S' (reduce p)
    moved kept =
        lowest-peak S S' h ext (Up (tie_order t)) O side k tight.member tight.crosses kept
        (step-on (Up (tie_order t)) O S h s (pos_nn proper) peak.feasible.kept peak.greatest breaks side k
        (walked-up S S' h ext (tie_order t) O) tight)
        (λ w f. step-below (Up (tie_order t)) O S h s (pos_nn proper) peak.feasible.kept peak.greatest breaks side k
        (walked-up S S' h ext (tie_order t) O) tight w (feasible_shrinks S S' h ext w f) (feasible-keeps-new S S' h ext w f))

    -- the tightest point keeps what is met along the line, so what it breaks is not
    not-met : (m : Constraint) → Memᴰ m S → slack m p <ᶻ pos 0 → pos 0 ≤ᶻ det (facing side h) m
    not-met m i b = go (le_or_lt (det m (facing side h)) (pos 0))
      where
        go : (det m (facing side h) ≤ᶻ pos 0) ⊎ (pos 0 <ᶻ det m (facing side h)) → pos 0 ≤ᶻ det (facing side h) m
        go (inl z) = nn_by (C ∷ C ∷ []) (λ l m. detᵖ l m ≐ ⊝ detᵖ m l) refl (facing side h) m (neg_nn z)
        go (inr c) = clash_ℤ b (tight.tightest m i c)

    checked-sound : (b : Option (ℕ × Constraint)) → Outcome_of_check S p S b → Restarted t S' (checked side (length S) h j k p b)
    checked-sound None kept = moved kept
    checked-sound (Some (i, m)) (at-m, b) =
        conflict-certified S h side j k i m at-k at-m s proper breaks (peak.feasible.kept k tight.member)
        (peak.feasible.kept m (at-member S i m at-m)) tight.crosses (not-met m (at-member S i m at-m) b) b

  pub restart-sound : Restarted t S' (restart t S (length S) h)
  restart-sound = go (is_zero h.a && is_zero h.b) (λ u. u) (λ u. u)
    where
      resettle :
          T (not (is_zero h.a && is_zero h.b)) →
          (f : Option Met) →
          Outcome_of_scan S (facing side h) f →
          Restarted t S' (resettled S side (length S) h f)
      resettle n None away =
          absurd (T_not (is_zero h.a && is_zero h.b) n
          (and_both (is_zero h.a) (is_zero h.b) (zero_test a-zero) (zero_test null.no_dx)))
        where
          null : Null (direction h)
          null = no_line S S' h ext (tie_order t) O falls away

          a-zero : h.a ≡ pos 0
          a-zero = sym (neg_ℤ-neg_ℤ h.a) ∙ ap neg_ℤ null.no_dy

          zero_test : {z : ℤ} → z ≡ pos 0 → T (is_zero z)
          zero_test e = subst (λ z. T (is_zero z)) (sym e) tt
      resettle n (Some found) (tight, e, a) =
          subst (λ z. Restarted t S' (checked side (length S) h found.index found.entry z (first_broken z 0 S))) (sym e)
          (checked-sound found.index found.entry tight a (first_broken (meet found.entry (facing side h)) 0 S)
          (check-finds S (meet found.entry (facing side h))))

      go :
          (b : Bool) →
          (T b → T (is_zero h.a && is_zero h.b)) →
          (T (not b) → T (not (is_zero h.a && is_zero h.b))) →
          Restarted t S' (elim b [
            | true ↦ Err (alone (length S))
            | false ↦ resettled S side (length S) h
                (tightest (facing side h) 0 S None)
          ])
      go true y n =
          alone-certified S h (is-zero h.a (and_left (is_zero h.a) (is_zero h.b) (y tt)))
          (is-zero h.b (and_right (is_zero h.a) (is_zero h.b) (y tt)))
          (negative (is-zero h.a (and_left (is_zero h.a) (is_zero h.b) (y tt)))
          (is-zero h.b (and_right (is_zero h.a) (is_zero h.b) (y tt))))
      go false y n = resettle (n tt) (tightest (facing side h) 0 S None) (scan_finds S (facing side h))
