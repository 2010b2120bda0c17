-- The end of a new edge is the tightest point. h has entered a boundary, between k and e. Walked along (b, −a) the line of h is left at
-- its corner with k, walked the other way at its corner with e. If that corner is a point, it is the one that the walk's pass over all
-- entries finds, in lowest terms; and no entry is broken there.
use Rattle.std.specs.Prelude.{Option, None, Some, Result, Ok, Err}
use mathlib.Core.Path.{◌≡◌, refl, sym, ◌∙◌, ap, ap₂, subst}
use mathlib.Core.List.Memᴰ
use mathlib.Core.List.{List, [], ◌∷◌, ◌++◌, Memᴰ}
use mathlib.Core.Bool.{Bool, true, false, ◌&&◌}
use mathlib.Core.Logic.{⊎_elim}
use Prim.Native.Nat.{ℕ}
use lib.Dec.{T}
use lib.IntN.{pos, neg_ℤ, ◌*ℤ◌, ◌-ℤ◌}
use lib.Signed.{lt_z, lt_z_yes, clash_ℤ}
use Rattle.ints.specs.Order.{◌≤ᶻ◌, ◌<ᶻ◌}
use Rattle.ints.proofs.Ring.{ring, con, ◌⊖◌, ◌⊗◌, ⊝◌, ◌≐◌}
use Rattle.ints.proofs.Order.{nn_mul, pos_nn, antisymmetric, nn_neg, le_of_eq}
use Rattle.lp.specs.declared.Constraint.{Constraint}
use Rattle.lp.specs.declared.Functional.{Functional}
use Rattle.lp.specs.declared.Point.{Point}
use Rattle.lp.specs.declared.Tie.{Tie}
use Rattle.lp.specs.Program.{slack, Keeps}
use Rattle.lp.specs.Outcome.{above, det, meet, reduce, tie_order}
use Rattle.lp.specs.Certificate.{is_zero}
use Rattle.lp.specs.declared.Certificate.{Certificate}
use Rattle.model.specs.declared.Met.{Met}
use Rattle.model.specs.Scan.{reversed, facing, direction, tightest, first_broken}
use Rattle.model.specs.Step.{found_point, tightest_point, alone, checked, resettled, restart}
use Rattle.theory.proofs.Solver.{equal, C, slackᵖ, detᵖ, meetᵖ}
use Rattle.theory.proofs.Lists.{at-member, and_left, and_right}
use Rattle.theory.proofs.Farkas.{is-zero}
use Rattle.theory.proofs.Line.{meet-on-second, reversedᵖ}
use Rattle.theory.proofs.Reduction.{point_path, multiple-slack, keeps-lowest, reduced-multiple}
use Rattle.theory.proofs.Step.{Tight}
use Rattle.theory.proofs.Tightest.{Outcome_of_scan, scan_finds, Outcome_of_check, check-finds}
use Rattle.boundary.specs.Size.{horizon}
use Rattle.boundary.specs.Quick.{nowhere, at, proper, end_of, restart_at, point_at}
use Rattle.boundary.proofs.Corner.{Corner}
use Rattle.boundary.proofs.Corners.{on_both, same-lowest}

-- ---- the pass finds the corner

-- k meets the line of l in a point that keeps S
module _ (S : List Constraint) (k l : Constraint) (member : Memᴰ k S) (crosses : pos 0 <ᶻ det k l)
    (kept : (m : Constraint) → Memᴰ m S → Keeps m (meet k l)) where
  -- whatever the pass found, k keeps it and it keeps k: it is the same point
  module _ (m : Constraint) (tight : Tight S l m) where
    same_point : reduce (meet k l) ≡ reduce (meet m l)
    same_point =
        same-lowest (meet k l) (meet m l) crosses tight.crosses
        (on_both l m l tight.crosses (meet k l)
        (antisymmetric (nn_neg (subst (λ z. pos 0 ≤ᶻ z) swapped (tight.tightest k member crosses))) (kept m tight.member))
        (meet-on-second k l))
      where
        swapped : slack k (meet m l) ≡ neg_ℤ (slack m (meet k l))
        swapped = equal (C ∷ C ∷ C ∷ []) (λ k m l. slackᵖ k (meetᵖ m l) ≐ ⊝ slackᵖ m (meetᵖ k l)) refl k m l

    found-keeps : (r : Constraint) → Memᴰ r S → Keeps r (meet m l)
    found-keeps r i =
        subst (λ z. pos 0 ≤ᶻ z) (multiple-slack _ (reduce (meet m l)) (meet m l) (reduced-multiple (meet m l) tight.crosses) r)
        (nn_mul (pos_nn (reduced-multiple (meet m l) tight.crosses).positive)
        (subst (Keeps r) same_point (keeps-lowest _ (reduce (meet k l)) (meet k l) (reduced-multiple (meet k l) crosses) r (kept r i))))

  pass_finds : found_point (tightest l 0 S None) ≡ reduce (meet k l)
  pass_finds = go (tightest l 0 S None) (scan_finds S l)
    where
      go : (f : Option Met) → Outcome_of_scan S l f → found_point f ≡ reduce (meet k l)
      go None away = clash_ℤ crosses (away k member)
      go (Some found) (tight, e, i) = ap reduce e ∙ sym (same_point found.entry tight)

  pass_moves : (side : Bool) (n : ℕ) (h : Constraint) → resettled S side n h (tightest l 0 S None) ≡ Ok (reduce (meet k l))
  pass_moves side n h = go (tightest l 0 S None) (scan_finds S l)
    where
      look :
          (j : ℕ) (m : Constraint) (p : Point) →
          Tight S l m →
          p ≡ meet m l →
          (b : Option (ℕ × Constraint)) →
          Outcome_of_check S p S b →
          checked side n h j m p b ≡ Ok (reduce (meet k l))
      look j m p tight e None o = ap Ok (ap reduce e ∙ sym (same_point m tight))
      look j m p tight e (Some (i, r)) (a, b) =
          clash_ℤ (subst (λ z. slack r z <ᶻ pos 0) e b) (found-keeps m tight r (at-member S i r a))

      go : (f : Option Met) → Outcome_of_scan S l f → resettled S side n h f ≡ Ok (reduce (meet k l))
      go None away = clash_ℤ crosses (away k member)
      go (Some found) (tight, e, i) =
          look found.index found.entry found.point tight e (first_broken found.point 0 S) (check-finds S found.point)

-- ---- a line walked the other way

pub turned-d : (h e : Constraint) → det e (reversed h) ≡ det h e
turned-d = equal (C ∷ C ∷ []) (λ h e. detᵖ e (reversedᵖ h) ≐ detᵖ h e) refl

pub turned-meet : (h e : Constraint) → meet e (reversed h) ≡ meet h e
turned-meet h e =
    point_path (equal (C ∷ C ∷ []) (λ h e. (meetᵖ e (reversedᵖ h)).x ≐ (meetᵖ h e).x) refl h e)
    (equal (C ∷ C ∷ []) (λ h e. (meetᵖ e (reversedᵖ h)).y ≐ (meetᵖ h e).y) refl h e)
    (turned-d h e)

-- a line that is crossed has a direction
crossed_sloped : (h k : Constraint) (side : Bool) → pos 0 <ᶻ det k (facing side h) → is_zero h.a && is_zero h.b ≡ false
crossed_sloped h k side crosses = go (is_zero h.a && is_zero h.b) (λ t. clash_ℤ crosses (le_of_eq (flat t side)))
  where
    level : T (is_zero h.a && is_zero h.b) → det k h ≡ pos 0
    level t =
        ap₂ (λ a b. k.a *ℤ b -ℤ a *ℤ k.b) (is-zero h.a (and_left (is_zero h.a) (is_zero h.b) t))
        (is-zero h.b (and_right (is_zero h.a) (is_zero h.b) t))
        ∙ ring 2 (λ a b. a ⊗ con (pos 0) ⊖ con (pos 0) ⊗ b ≐ con (pos 0)) refl k.a k.b

    flat : T (is_zero h.a && is_zero h.b) → (s : Bool) → det k (facing s h) ≡ pos 0
    flat t true = level t
    flat t false = equal (C ∷ C ∷ []) (λ k h. detᵖ k (reversedᵖ h) ≐ ⊝ detᵖ k h) refl k h ∙ ap neg_ℤ (level t)

    go : (b : Bool) → (T b → ⊥) → b ≡ false
    go true n = absurd (n tt)
    go false n = refl

-- ---- the end of the new edge

no_horizon_end : (k : Constraint) → det k horizon ≡ pos 0
no_horizon_end = equal (C ∷ []) (λ k. k.a ⊗ con (pos 0) ⊖ con (pos 0) ⊗ k.b ≐ con (pos 0)) refl

no_horizon_begin : (k : Constraint) → det horizon k ≡ pos 0
no_horizon_begin = equal (C ∷ []) (λ k. con (pos 0) ⊗ k.b ⊖ k.a ⊗ con (pos 0) ≐ con (pos 0)) refl

no_self : (h : Constraint) → det h h ≡ pos 0
no_self = equal (C ∷ []) (λ h. detᵖ h h ≐ con (pos 0)) refl

module _ (S : List Constraint) (h : Constraint) where
  -- the entries after h, with the horizon
  abbrev pub after : List Constraint
  after = horizon ∷ (S ++ (h ∷ []))

  -- what crosses h is neither the horizon nor h
  old-entry : (k : Constraint) → Memᴰ k after → (k ≡ horizon → ⊥) → (k ≡ h → ⊥) → Memᴰ k S
  old-entry k i no_horizon no-h =
      ⊎_elim (λ e. absurd (no_horizon e))
      (λ j. ⊎_elim (λ x. x) (λ x. absurd (no-h (Memᴰ.eq_of_singleton x))) (Memᴰ.append_cases S j)) (Memᴰ.cases_cons i)

  kept_entry : (m : Constraint) → Memᴰ m S → Memᴰ m after
  kept_entry m i = Memᴰ.tail (Memᴰ.append_left (h ∷ []) i)

  module _ (D k : Constraint) (c : Corner D after k h) (crosses : pos 0 <ᶻ det k h) where
    before-member : Memᴰ k S
    before-member =
        old-entry k c.first (λ e. clash_ℤ crosses (le_of_eq (ap (λ z. det z h) e ∙ no_horizon_begin h)))
        (λ e. clash_ℤ crosses (le_of_eq (ap (λ z. det z h) e ∙ no_self h)))

    -- walked as it stands
    before-found : found_point (tightest (facing true h) 0 S None) ≡ reduce (meet k h)
    before-found = pass_finds S k h before-member crosses (λ m i. c.kept m (kept_entry m i))

    before-moves : (n : ℕ) → resettled S true n h (tightest (facing true h) 0 S None) ≡ Ok (reduce (meet k h))
    before-moves n = pass_moves S k h before-member crosses (λ m i. c.kept m (kept_entry m i)) true n h

  module _ (D e : Constraint) (c : Corner D after h e) (crosses : pos 0 <ᶻ det h e) where
    after-member : Memᴰ e S
    after-member =
        old-entry e c.second (λ p. clash_ℤ crosses (le_of_eq (ap (λ z. det h z) p ∙ no_horizon_end h)))
        (λ p. clash_ℤ crosses (le_of_eq (ap (λ z. det h z) p ∙ no_self h)))

    turned-crosses : pos 0 <ᶻ det e (reversed h)
    turned-crosses = subst (λ z. pos 0 <ᶻ z) (sym (turned-d h e)) crosses

    turned-kept : (m : Constraint) → Memᴰ m S → Keeps m (meet e (reversed h))
    turned-kept m i = subst (Keeps m) (sym (turned-meet h e)) (c.kept m (kept_entry m i))

    -- walked the other way
    after-found : found_point (tightest (facing false h) 0 S None) ≡ reduce (meet h e)
    after-found = pass_finds S e (reversed h) after-member turned-crosses turned-kept ∙ ap reduce (turned-meet h e)

    after-moves : (n : ℕ) → resettled S false n h (tightest (facing false h) 0 S None) ≡ Ok (reduce (meet h e))
    after-moves n =
        pass_moves S e (reversed h) after-member turned-crosses turned-kept false n h ∙ ap (λ z. Ok (reduce z)) (turned-meet h e)

  -- h lies between k and e in a boundary
  module _ (D k e : Constraint) (before : Corner D after k h) (next : Corner D after h e) where
    -- the end is the point that the pass finds
    pub end-tightest : (fs : List Functional) → point_at fs S h (end_of fs h k e) ≡ tightest_point fs S h
    end-tightest fs = go (above fs (direction h)) refl
      where
        at-k :
            (b : Bool) →
            (T b → pos 0 <ᶻ det k h) →
            tightest_point fs S h ≡ found_point (tightest (facing true h) 0 S None) →
            point_at fs S h (elim b [ true ↦ at (reduce (meet k h)) | false ↦ nowhere ]) ≡ tightest_point fs S h
        at-k true y scan = sym (scan ∙ before-found D k before (y tt))
        at-k false y scan = refl

        at-e :
            (b : Bool) →
            (T b → pos 0 <ᶻ det h e) →
            tightest_point fs S h ≡ found_point (tightest (facing false h) 0 S None) →
            point_at fs S h (elim b [ true ↦ at (reduce (meet h e)) | false ↦ nowhere ]) ≡ tightest_point fs S h
        at-e true y scan = sym (scan ∙ after-found D e next (y tt))
        at-e false y scan = refl

        go :
            (side : Bool) →
            above fs (direction h) ≡ side →
            point_at fs S h (elim side [ true ↦ proper (meet k h) | false ↦ proper (meet h e) ]) ≡ tightest_point fs S h
        go true s = at-k (lt_z (pos 0) (det k h)) (λ t. lt_z_yes t) (ap (λ b. found_point (tightest (facing b h) 0 S None)) s)
        go false s = at-e (lt_z (pos 0) (det h e)) (λ t. lt_z_yes t) (ap (λ b. found_point (tightest (facing b h) 0 S None)) s)

    -- and the start point moves there
    pub end-restarts : (t : Tie) (n : ℕ) → restart_at t S n h (end_of (tie_order t) h k e) ≡ restart t S n h
    end-restarts t n = go (above (tie_order t) (direction h)) refl
      where
        resettling : Bool → Result Point Certificate
        resettling side = resettled S side n h (tightest (facing side h) 0 S None)

        scanned :
            (side : Bool) →
            above (tie_order t) (direction h) ≡ side →
            is_zero h.a && is_zero h.b ≡ false →
            restart t S n h ≡ resettling side
        scanned side s z =
            ap {B = Result Point Certificate}
            (λ b. elim b [ true ↦ Err (alone n) | false ↦ resettling (above (tie_order t) (direction h)) ]) z
            ∙ ap resettling s

        at-k :
            (b : Bool) →
            (T b → pos 0 <ᶻ det k h) →
            above (tie_order t) (direction h) ≡ true →
            restart_at t S n h (elim b [ true ↦ at (reduce (meet k h)) | false ↦ nowhere ]) ≡ restart t S n h
        at-k true y s = sym (scanned true s (crossed_sloped h k true (y tt)) ∙ before-moves D k before (y tt) n)
        at-k false y s = refl

        at-e :
            (b : Bool) →
            (T b → pos 0 <ᶻ det h e) →
            above (tie_order t) (direction h) ≡ false →
            restart_at t S n h (elim b [ true ↦ at (reduce (meet h e)) | false ↦ nowhere ]) ≡ restart t S n h
        at-e true y s =
            sym (scanned false s (crossed_sloped h e false (turned-crosses D e next (y tt))) ∙ after-moves D e next (y tt) n)
        at-e false y s = refl

        go :
            (side : Bool) →
            above (tie_order t) (direction h) ≡ side →
            restart_at t S n h (elim side [ true ↦ proper (meet k h) | false ↦ proper (meet h e) ]) ≡ restart t S n h
        go true s = at-k (lt_z (pos 0) (det k h)) (λ t. lt_z_yes t) s
        go false s = at-e (lt_z (pos 0) (det h e)) (λ t. lt_z_yes t) s
