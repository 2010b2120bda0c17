-- The peak of a system in an order: the feasible point that no feasible point is above, a vertex in lowest terms. It stays where the next
-- constraint is kept; otherwise the tightest point on that constraint's line is the next peak, if there is a feasible point at all.
use Rattle.std.specs.Prelude.{Option, None, Some}
use mathlib.Core.Path.{◌≡◌, refl, sym, ◌∙◌, ap, subst}
use mathlib.Core.List.{List, [], ◌∷◌, Memᴰ}
use mathlib.Core.Bool.{Bool, true, false, not}
use lib.Dec.{T}
use lib.IntN.{ℤ, pos, neg_ℤ, ◌-ℤ◌, ◌*ℤ◌, zero-*ℤ, neg_ℤ-neg_ℤ}
use lib.Signed.{clash_ℤ}
use Rattle.ints.specs.Order.{◌≤ᶻ◌, ◌<ᶻ◌}
use Rattle.ints.proofs.Ring.{◌⊕◌, ◌⊖◌, ◌⊗◌, ⊝◌, ◌≐◌, con}
use Rattle.ints.proofs.Order.{nn_add, nn_zero, nn_mul, nn_cancel, le_of_eq}
use Rattle.lp.specs.declared.Constraint.{Constraint}
use Rattle.lp.specs.declared.Functional.{Functional}
use Rattle.lp.specs.declared.Point.{Point}
use Rattle.lp.specs.declared.Ray.{Ray}
use Rattle.lp.specs.Program.{slack, rise, Keeps, Feasible}
use Rattle.lp.specs.Outcome.{above, det, meet, reduce}
use Rattle.model.specs.declared.Met.{Met}
use Rattle.model.specs.Scan.{facing, direction, tightest}
use Rattle.model.specs.Step.{found_point, tightest_point}
use Rattle.theory.proofs.Solver.{equal, nn_by, C, P, slackᵖ, detᵖ}
use Rattle.theory.proofs.Extension.{Extends, for-extended, feasible_shrinks, feasible-keeps-new, feasible-grows}
use Rattle.theory.proofs.Direction.{Upward, Greatest, Null, opposite}
use Rattle.theory.proofs.Lexicographic.{Up, above-up, not-above-up}
use Rattle.theory.proofs.Step.{step-below, step_keeps, step-on}
use Rattle.theory.proofs.Cone.{Recedes}
use Rattle.theory.proofs.Reduction.{keeps-lowest, at-most-lowest, reduced-multiple, reduced-proper}
use Rattle.theory.proofs.Vertex.{Vertex, vertex-grows, meeting-vertex}
use Rattle.theory.proofs.Tightest.{Outcome_of_scan, scan_finds}

pub record Peak (Upwards : Ray → Type 0) (S : List Constraint) (v : Point) : Type 0 where
  pub feasible : Feasible S v
  pub greatest : Greatest Upwards S v
  pub vertex : Vertex S v

-- every ray of the system is a loss
abbrev pub Falls : (Ray → Type 0) → List Constraint → Type 0
Falls Upwards S = (d : Ray) → Recedes S d → Upwards (opposite d)

module _ (S S' : List Constraint) (h : Constraint) (ext : Extends S h S') where
  pub peak-stays : (Upwards : Ray → Type 0) (v : Point) → Peak Upwards S v → Keeps h v → Peak Upwards S' v
  peak-stays Upwards v p k =
      record {
        feasible = feasible-grows S S' h ext v p.feasible k;
        greatest = λ w f. p.greatest w (feasible_shrinks S S' h ext w f);
        vertex = vertex-grows S S' ext.old v p.vertex;
      }

  -- a point of the old system on the line of h that is above all, in lowest terms
  pub lowest-peak :
      (Upwards : Ray → Type 0) →
      Upward Upwards →
      (side : Bool) (k : Constraint) →
      Memᴰ k S →
      pos 0 <ᶻ det k (facing side h) →
      ((m : Constraint) → Memᴰ m S → Keeps m (meet k (facing side h))) →
      Keeps h (meet k (facing side h)) →
      Greatest Upwards S' (meet k (facing side h)) →
      Peak Upwards S' (reduce (meet k (facing side h)))
  lowest-peak Upwards O side k i c kept on g =
      record {
        feasible =
            record {
              proper = reduced-proper p c;
              kept = for-extended S S' h ext (λ r. Keeps r (reduce p)) (λ r j. lower r (kept r j))
                  (lower h on);
            };
        greatest = λ w f. at-most-lowest _ (reduce p) p (reduced-multiple p c) Upwards O w (g w f);
        vertex = meeting-vertex S' side h k ext.new (ext.old k i) c;
      }
    where
      p : Point
      p = meet k (facing side h)

      lower : (r : Constraint) → Keeps r p → Keeps r (reduce p)
      lower r q = keeps-lowest _ (reduce p) p (reduced-multiple p c) r q

  module _ (fs : List Functional) (O : Upward (Up fs)) where
    abbrev side : Bool
    side = above fs (direction h)

    abbrev l : Constraint
    l = facing side h

    -- the line is walked upwards
    pub walked-up : Up fs (direction l)
    walked-up = go side (above-up fs (direction h)) (not-above-up fs (direction h))
      where
        go : (b : Bool) → (T b → Up fs (direction h)) → (T (not b) → Up fs (opposite (direction h))) → Up fs (direction (facing b h))
        go true y n = y tt
        go false y n = n tt

    -- if no entry is met along the line, its direction is a ray that is no loss: the line has no direction
    pub no_line :
        Falls (Up fs) S' →
        ((m : Constraint) → Memᴰ m S → det m l ≤ᶻ pos 0) →
        Null (direction h)
    no_line falls away =
        back side (O.antisymmetric (direction l) walked-up
        (falls (direction l) (for-extended S S' h ext (λ r. rise r (direction l) ≤ᶻ pos 0) (λ m i. along-l m (away m i)) (level side))))
      where
        along-l : (m : Constraint) → det m l ≤ᶻ pos 0 → rise m (direction l) ≤ᶻ pos 0
        along-l m z = subst (λ y. y ≤ᶻ pos 0) (equal (C ∷ C ∷ []) (λ m l. detᵖ m l ≐ m.a ⊗ l.b ⊕ m.b ⊗ ⊝ l.a) refl m l) z

        level : (b : Bool) → rise h (direction (facing b h)) ≤ᶻ pos 0
        level true = le_of_eq (equal (C ∷ []) (λ h. h.a ⊗ h.b ⊕ h.b ⊗ ⊝ h.a ≐ con (pos 0)) refl h)
        level false = le_of_eq (equal (C ∷ []) (λ h. h.a ⊗ ⊝ h.b ⊕ h.b ⊗ ⊝ (⊝ h.a) ≐ con (pos 0)) refl h)

        back : (b : Bool) → Null (direction (facing b h)) → Null (direction h)
        back true n = n
        back false n =
            record { no_dx = sym (neg_ℤ-neg_ℤ h.b) ∙ ap neg_ℤ n.no_dx; no_dy = sym (neg_ℤ-neg_ℤ (neg_ℤ h.a)) ∙ ap neg_ℤ n.no_dy }

    -- a constraint without a direction is broken by no point or by all
    pub flat-constraint :
        Null (direction h) →
        (v w : Point) →
        pos 0 ≤ᶻ v.d →
        pos 0 <ᶻ w.d →
        Keeps h w →
        Keeps h v
    flat-constraint n v w hv hw k =
        nn_cancel hw
        (nn_by (C ∷ P ∷ P ∷ [])
        (λ h v w. w.d ⊗ slackᵖ h v ≐ v.d ⊗ slackᵖ h w ⊕ (⊝ h.a) ⊗ (v.x ⊗ w.d ⊖ w.x ⊗ v.d) ⊕ h.b ⊗ (w.y ⊗ v.d ⊖ v.y ⊗ w.d))
        refl h v w
        (nn_add (nn_add (nn_mul hv k) (nought (neg_ℤ h.a) (v.x *ℤ w.d -ℤ w.x *ℤ v.d) n.no_dy))
        (nought h.b (w.y *ℤ v.d -ℤ v.y *ℤ w.d) n.no_dx)))
      where
        nought : (y z : ℤ) → y ≡ pos 0 → pos 0 ≤ᶻ y *ℤ z
        nought y z e = nn_zero (ap (λ x. x *ℤ z) e ∙ zero-*ℤ z)

    -- the next peak. v is the peak before, or a ray that gains and that h cuts off
    pub peak-moves :
        (v : Point) →
        pos 0 ≤ᶻ v.d →
        ((r : Constraint) → Memᴰ r S → Keeps r v) →
        Greatest (Up fs) S v →
        slack h v <ᶻ pos 0 →
        Falls (Up fs) S' →
        (w : Point) →
        Feasible S' w →
        Peak (Up fs) S' (tightest_point fs S h)
    peak-moves v hv kept great breaks falls w fw = go (tightest l 0 S None) (scan_finds S l)
      where
        go : (f : Option Met) → Outcome_of_scan S l f → Peak (Up fs) S' (found_point f)
        go None away =
            clash_ℤ breaks (flat-constraint (no_line falls away) v w hv fw.proper (feasible-keeps-new S S' h ext w fw))
        go (Some found) (tight, e, a) =
            subst (λ z. Peak (Up fs) S' (reduce z)) (sym e)
            (lowest-peak (Up fs) O side found.entry tight.member tight.crosses
            (step_keeps (Up fs) O S h v hv kept great breaks side found.entry walked-up tight w (feasible_shrinks S S' h ext w fw)
            (feasible-keeps-new S S' h ext w fw))
            (step-on (Up fs) O S h v hv kept great breaks side found.entry walked-up tight)
            (λ u fu. step-below (Up fs) O S h v hv kept great breaks side found.entry walked-up tight u (feasible_shrinks S S' h ext u fu)
            (feasible-keeps-new S S' h ext u fu)))
