-- The rays of a system: an angular interval from lo to hi inside the quadrant, or nothing. |d| stands for dx + dy, which is positive for
-- every ray but 0; the identity f(q)·|p| − f(p)·|q| = cross(p, q)·(b − a) compares what a functional (a, b) does along two rays, also
-- where they are the same.
use Rattle.std.specs.Prelude.{Option, None, Some}
use mathlib.Core.Path.{◌≡◌, refl, sym, ◌∙◌, ap, subst}
use mathlib.Core.List.{List, [], ◌∷◌, Memᴰ}
use mathlib.Core.Bool.{Bool, true, false, not}
use mathlib.Core.Logic.{◌⊎◌, inl, inr}
use lib.Dec.{T}
use lib.IntN.{pos, neg_ℤ, ◌+ℤ◌, ◌-ℤ◌, ◌*ℤ◌, zero-*ℤ}
use lib.Signed.{le_z, lt_z, le_z_yes, lt_z_yes, lt_z_no, clash_ℤ}
use Rattle.ints.specs.Order.{◌≤ᶻ◌, ◌<ᶻ◌}
use Rattle.ints.proofs.Ring.{Poly, ◌⊕◌, ◌⊖◌, ◌⊗◌, ⊝◌, ◌≐◌, con}
use Rattle.ints.proofs.Order.{Sign, minus, nought, plus, sign, nn_add, nn_mul, nn_zero, nn_cancel, nn_neg, sub_nn, pos_nn, pos-mul}
use Rattle.ints.proofs.Order.{pos-add_nn, nn_add_pos, pos-cancel, neg_nn, le_z_no, le_or_lt, le_of_eq, lt_le}
use Rattle.lp.specs.declared.Constraint.{Constraint}
use Rattle.lp.specs.declared.Functional.{Functional}
use Rattle.lp.specs.declared.Ray.{Ray}
use Rattle.lp.specs.Program.{constraint, ray, rise, along}
use Rattle.lp.specs.Outcome.{cross}
use Rattle.model.specs.Scan.{direction}
use Rattle.model.specs.Step.{narrow, narrowed, gaining}
use Rattle.theory.proofs.Solver.{equal, nn_by, pos-by, clash-by, C, R, riseᵖ, crossᵖ, Rayᵖ}
use Rattle.theory.proofs.Direction.{Null, null_of_size, along-null}
use Rattle.theory.proofs.Extension.{Extends, for-extended}

-- a direction that leaves no constraint of the system
abbrev pub Recedes : List Constraint → Ray → Type 0
Recedes S d = (r : Constraint) → Memᴰ r S → rise r d ≤ᶻ pos 0

-- a ray of the quadrant, other than 0
pub record Forward (d : Ray) : Type 0 where
  pub nn_dx : pos 0 ≤ᶻ d.dx
  pub nn_dy : pos 0 ≤ᶻ d.dy
  pub size : pos 0 <ᶻ d.dx +ℤ d.dy

-- perpendicular to some constraint's normal, as document 01's candidates are
abbrev pub Candidate : List Constraint → Ray → Type 0
Candidate S d = (r : Constraint) × Memᴰ r S × ((d ≡ direction r) ⊎ (d ≡ ray (neg_ℤ r.b) r.a))

pub record Wedged (S : List Constraint) (lo hi : Ray) : Type 0 where
  pub lo_recedes : Recedes S lo
  pub hi-recedes : Recedes S hi
  pub lo_forward : Forward lo
  pub hi-forward : Forward hi
  pub after_lo : (d : Ray) → Recedes S d → pos 0 ≤ᶻ cross lo d
  pub before-hi : (d : Ray) → Recedes S d → pos 0 ≤ᶻ cross d hi
  pub lo_candidate : Candidate S lo
  pub hi-candidate : Candidate S hi

abbrev pub Spans : List Constraint → Option (Ray × Ray) → Type 0
Spans S None = (d : Ray) → Recedes S d → Null d
Spans S (Some (lo, hi)) = Wedged S lo hi

-- what the floors say: every ray is in the quadrant
abbrev pub Quadrant : List Constraint → Type 0
Quadrant S = (d : Ray) → Recedes S d → (pos 0 ≤ᶻ d.dx) × (pos 0 ≤ᶻ d.dy)

abbrev sizeᵖ : Rayᵖ → Poly
sizeᵖ d = d.dx ⊕ d.dy

-- ---- a functional along a ray between two

module _ (f : Constraint) (lo hi d : Ray) (lo-size : pos 0 <ᶻ lo.dx +ℤ lo.dy) (hi-size : pos 0 <ᶻ hi.dx +ℤ hi.dy)
    (after : pos 0 ≤ᶻ cross lo d) (before : pos 0 ≤ᶻ cross d hi) where
  -- not above 0 along both, not above 0 between
  pub between-falls : pos 0 ≤ᶻ d.dx +ℤ d.dy → rise f lo ≤ᶻ pos 0 → rise f hi ≤ᶻ pos 0 → rise f d ≤ᶻ pos 0
  between-falls size falls-lo falls-hi = nn_neg (go (le_or_lt f.b f.a))
    where
      go : (f.b ≤ᶻ f.a) ⊎ (f.a <ᶻ f.b) → pos 0 ≤ᶻ neg_ℤ (rise f d)
      go (inl h) =
          nn_cancel lo-size
          (nn_by (C ∷ R ∷ R ∷ []) (λ f lo d. sizeᵖ lo ⊗ ⊝ riseᵖ f d ≐ ⊝ riseᵖ f lo ⊗ sizeᵖ d ⊕ (f.a ⊖ f.b) ⊗ crossᵖ lo d) refl f lo d
          (nn_add (nn_mul (neg_nn falls-lo) size) (nn_mul (sub_nn h) after)))
      go (inr h) =
          nn_cancel hi-size
          (nn_by (C ∷ R ∷ R ∷ []) (λ f hi d. sizeᵖ hi ⊗ ⊝ riseᵖ f d ≐ ⊝ riseᵖ f hi ⊗ sizeᵖ d ⊕ (f.b ⊖ f.a) ⊗ crossᵖ d hi) refl f hi d
          (nn_add (nn_mul (neg_nn falls-hi) size) (nn_mul (sub_nn (lt_le h)) before)))

  -- above 0 along both, above 0 between
  pub between-rises : pos 0 <ᶻ d.dx +ℤ d.dy → pos 0 <ᶻ rise f lo → pos 0 <ᶻ rise f hi → pos 0 <ᶻ rise f d
  between-rises size rises-lo rises-hi = go (le_or_lt f.b f.a)
    where
      go : (f.b ≤ᶻ f.a) ⊎ (f.a <ᶻ f.b) → pos 0 <ᶻ rise f d
      go (inl h) =
          pos-cancel hi-size
          (pos-by (C ∷ R ∷ R ∷ []) (λ f hi d. sizeᵖ hi ⊗ riseᵖ f d ≐ riseᵖ f hi ⊗ sizeᵖ d ⊕ (f.a ⊖ f.b) ⊗ crossᵖ d hi) refl f hi d
          (pos-add_nn (pos-mul rises-hi size) (nn_mul (sub_nn h) before)))
      go (inr h) =
          pos-cancel lo-size
          (pos-by (C ∷ R ∷ R ∷ []) (λ f lo d. sizeᵖ lo ⊗ riseᵖ f d ≐ riseᵖ f lo ⊗ sizeᵖ d ⊕ (f.b ⊖ f.a) ⊗ crossᵖ lo d) refl f lo d
          (pos-add_nn (pos-mul rises-lo size) (nn_mul (sub_nn (lt_le h)) after)))

-- ---- narrowing by a constraint

module _ (S S' : List Constraint) (h : Constraint) (ext : Extends S h S') (quadrant : Quadrant S) where
  recedes-old : (d : Ray) → Recedes S' d → Recedes S d
  recedes-old d f r i = f r (ext.old r i)

  recedes-new : (d : Ray) → Recedes S d → rise h d ≤ᶻ pos 0 → Recedes S' d
  recedes-new d f g = for-extended S S' h ext (λ r. rise r d ≤ᶻ pos 0) f g

  candidate-old : (d : Ray) → Candidate S d → Candidate S' d
  candidate-old d (r, i, e) = (r, ext.old r i, e)

  module _ (lo hi : Ray) (w : Wedged S lo hi) where
    same_wedge : rise h lo ≤ᶻ pos 0 → rise h hi ≤ᶻ pos 0 → Wedged S' lo hi
    same_wedge p q =
        record {
          lo_recedes = recedes-new lo w.lo_recedes p;
          hi-recedes = recedes-new hi w.hi-recedes q;
          lo_forward = w.lo_forward;
          hi-forward = w.hi-forward;
          after_lo = λ d f. w.after_lo d (recedes-old d f);
          before-hi = λ d f. w.before-hi d (recedes-old d f);
          lo_candidate = candidate-old lo w.lo_candidate;
          hi-candidate = candidate-old hi w.hi-candidate;
        }

    -- lo and hi are different rays if h rises along one alone
    opens-at-hi : rise h lo ≤ᶻ pos 0 → pos 0 <ᶻ rise h hi → pos 0 <ᶻ cross lo hi
    opens-at-hi p q = go (sign (cross lo hi))
      where
        go : Sign (cross lo hi) → pos 0 <ᶻ cross lo hi
        go (minus n) = clash_ℤ n (w.after_lo hi w.hi-recedes)
        go (nought e) =
            absurd
            (clash-by (C ∷ R ∷ R ∷ []) (λ h lo hi. ⊝ riseᵖ h lo ⊗ sizeᵖ hi ⊕ crossᵖ lo hi ⊗ (h.a ⊖ h.b) ⊕ riseᵖ h hi ⊗ sizeᵖ lo) refl h
            lo hi
            (nn_add_pos
            (nn_add (nn_mul (neg_nn p) (pos_nn w.hi-forward.size)) (nn_zero (ap (λ z. z *ℤ (h.a -ℤ h.b)) e ∙ zero-*ℤ (h.a -ℤ h.b))))
            (pos-mul q w.lo_forward.size)))
        go (plus r) = r

    opens-at_lo : pos 0 <ᶻ rise h lo → rise h hi ≤ᶻ pos 0 → pos 0 <ᶻ cross lo hi
    opens-at_lo p q = go (sign (cross lo hi))
      where
        go : Sign (cross lo hi) → pos 0 <ᶻ cross lo hi
        go (minus n) = clash_ℤ n (w.after_lo hi w.hi-recedes)
        go (nought e) =
            absurd
            (clash-by (C ∷ R ∷ R ∷ []) (λ h lo hi. ⊝ riseᵖ h hi ⊗ sizeᵖ lo ⊕ crossᵖ lo hi ⊗ (h.b ⊖ h.a) ⊕ riseᵖ h lo ⊗ sizeᵖ hi) refl h
            lo hi
            (nn_add_pos
            (nn_add (nn_mul (neg_nn q) (pos_nn w.lo_forward.size)) (nn_zero (ap (λ z. z *ℤ (h.b -ℤ h.a)) e ∙ zero-*ℤ (h.b -ℤ h.a))))
            (pos-mul p w.hi-forward.size)))
        go (plus r) = r

    -- (b, −a) is a combination of lo and hi, along which h does not rise
    lower-hi : rise h lo ≤ᶻ pos 0 → pos 0 <ᶻ rise h hi → Wedged S' lo (ray h.b (neg_ℤ h.a))
    lower-hi p q =
        record {
          lo_recedes = recedes-new lo w.lo_recedes p;
          hi-recedes = recedes-new hi' hi'-old (le_of_eq (equal (C ∷ []) (λ h. h.a ⊗ h.b ⊕ h.b ⊗ ⊝ h.a ≐ con (pos 0)) refl h));
          lo_forward = w.lo_forward;
          hi-forward = record { nn_dx = (quadrant hi' hi'-old).0; nn_dy = (quadrant hi' hi'-old).1; size = hi'-size };
          after_lo = λ d f. w.after_lo d (recedes-old d f);
          before-hi = λ d f. nn_by (C ∷ R ∷ []) (λ h d. d.dx ⊗ ⊝ h.a ⊖ d.dy ⊗ h.b ≐ ⊝ riseᵖ h d) refl h d (neg_nn (f h ext.new));
          lo_candidate = candidate-old lo w.lo_candidate;
          hi-candidate = (h, ext.new, inl refl);
        }
      where
        hi' : Ray
        hi' = ray h.b (neg_ℤ h.a)

        hi'-old : Recedes S hi'
        hi'-old r i =
            nn_neg
            (nn_cancel (opens-at-hi p q)
            (nn_by (C ∷ C ∷ R ∷ R ∷ [])
            (λ r h lo hi. crossᵖ lo hi ⊗ ⊝ (r.a ⊗ h.b ⊕ r.b ⊗ ⊝ h.a) ≐ riseᵖ h hi ⊗ ⊝ riseᵖ r lo ⊕ ⊝ riseᵖ h lo ⊗ ⊝ riseᵖ r hi) refl r
            h lo hi
            (nn_add (nn_mul (pos_nn q) (neg_nn (w.lo_recedes r i))) (nn_mul (neg_nn p) (neg_nn (w.hi-recedes r i))))))

        hi'-size : pos 0 <ᶻ h.b +ℤ neg_ℤ h.a
        hi'-size =
            pos-cancel (opens-at-hi p q)
            (pos-by (C ∷ R ∷ R ∷ []) (λ h lo hi. crossᵖ lo hi ⊗ (h.b ⊕ ⊝ h.a) ≐ riseᵖ h hi ⊗ sizeᵖ lo ⊕ ⊝ riseᵖ h lo ⊗ sizeᵖ hi) refl h
            lo hi
            (pos-add_nn (pos-mul q w.lo_forward.size) (nn_mul (neg_nn p) (pos_nn w.hi-forward.size))))

    raise_lo : pos 0 <ᶻ rise h lo → rise h hi ≤ᶻ pos 0 → Wedged S' (ray (neg_ℤ h.b) h.a) hi
    raise_lo p q =
        record {
          lo_recedes = recedes-new lo' lo'-old (le_of_eq (equal (C ∷ []) (λ h. h.a ⊗ ⊝ h.b ⊕ h.b ⊗ h.a ≐ con (pos 0)) refl h));
          hi-recedes = recedes-new hi w.hi-recedes q;
          lo_forward = record { nn_dx = (quadrant lo' lo'-old).0; nn_dy = (quadrant lo' lo'-old).1; size = lo'-size };
          hi-forward = w.hi-forward;
          after_lo = λ d f. nn_by (C ∷ R ∷ []) (λ h d. ⊝ h.b ⊗ d.dy ⊖ h.a ⊗ d.dx ≐ ⊝ riseᵖ h d) refl h d (neg_nn (f h ext.new));
          before-hi = λ d f. w.before-hi d (recedes-old d f);
          lo_candidate = (h, ext.new, inr refl);
          hi-candidate = candidate-old hi w.hi-candidate;
        }
      where
        lo' : Ray
        lo' = ray (neg_ℤ h.b) h.a

        lo'-old : Recedes S lo'
        lo'-old r i =
            nn_neg
            (nn_cancel (opens-at_lo p q)
            (nn_by (C ∷ C ∷ R ∷ R ∷ [])
            (λ r h lo hi. crossᵖ lo hi ⊗ ⊝ (r.a ⊗ ⊝ h.b ⊕ r.b ⊗ h.a) ≐ riseᵖ h lo ⊗ ⊝ riseᵖ r hi ⊕ ⊝ riseᵖ h hi ⊗ ⊝ riseᵖ r lo) refl r
            h lo hi
            (nn_add (nn_mul (pos_nn p) (neg_nn (w.hi-recedes r i))) (nn_mul (neg_nn q) (neg_nn (w.lo_recedes r i))))))

        lo'-size : pos 0 <ᶻ neg_ℤ h.b +ℤ h.a
        lo'-size =
            pos-cancel (opens-at_lo p q)
            (pos-by (C ∷ R ∷ R ∷ []) (λ h lo hi. crossᵖ lo hi ⊗ (⊝ h.b ⊕ h.a) ≐ riseᵖ h lo ⊗ sizeᵖ hi ⊕ ⊝ riseᵖ h hi ⊗ sizeᵖ lo) refl h
            lo hi
            (pos-add_nn (pos-mul p w.hi-forward.size) (nn_mul (neg_nn q) (pos_nn w.lo_forward.size))))

    closed : pos 0 <ᶻ rise h lo → pos 0 <ᶻ rise h hi → (d : Ray) → Recedes S' d → Null d
    closed p q d f = go (le_or_lt (d.dx +ℤ d.dy) (pos 0))
      where
        old : Recedes S d
        old = recedes-old d f

        nn_dx : pos 0 ≤ᶻ d.dx
        nn_dx = (quadrant d old).0

        nn_dy : pos 0 ≤ᶻ d.dy
        nn_dy = (quadrant d old).1

        go : (d.dx +ℤ d.dy ≤ᶻ pos 0) ⊎ (pos 0 <ᶻ d.dx +ℤ d.dy) → Null d
        go (inl z) = null_of_size d nn_dx nn_dy z
        go (inr s) =
            clash_ℤ (between-rises h lo hi d w.lo_forward.size w.hi-forward.size (w.after_lo d old) (w.before-hi d old) s p q)
            (f h ext.new)

    narrowed-spans :
        (x y : Bool) →
        (T x → rise h lo ≤ᶻ pos 0) →
        (T (not x) → pos 0 <ᶻ rise h lo) →
        (T y → rise h hi ≤ᶻ pos 0) →
        (T (not y) → pos 0 <ᶻ rise h hi) →
        Spans S' (narrowed h lo hi x y)
    narrowed-spans true true a b c d = same_wedge (a tt) (c tt)
    narrowed-spans true false a b c d = lower-hi (a tt) (d tt)
    narrowed-spans false true a b c d = raise_lo (b tt) (c tt)
    narrowed-spans false false a b c d = closed (b tt) (d tt)

  pub narrow-spans : (rays : Option (Ray × Ray)) → Spans S rays → Spans S' (narrow h rays)
  narrow-spans None s = λ d f. s d (recedes-old d f)
  narrow-spans (Some (lo, hi)) w =
      narrowed-spans lo hi w (le_z (rise h lo) (pos 0)) (le_z (rise h hi) (pos 0)) (λ t. le_z_yes t) (λ t. le_z_no t) (λ t. le_z_yes t)
      (λ t. le_z_no t)

-- ---- gains

-- a functional as the normal of a constraint
abbrev normal-of : Functional → Constraint
normal-of f = constraint f.p f.q (pos 0)

-- the ray to give: it is a candidate, it gains, and no candidate that gains has a smaller slope
pub record Flattest (S : List Constraint) (f : Functional) (d : Ray) : Type 0 where
  pub recedes : Recedes S d
  pub forward : Forward d
  pub gains : pos 0 <ᶻ along f d
  pub candidate : Candidate S d
  pub flattest : (e : Ray) → Recedes S e → Candidate S e → pos 0 <ᶻ along f e → pos 0 ≤ᶻ cross d e

abbrev pub Gains : List Constraint → Functional → Option Ray → Type 0
Gains S f None = (d : Ray) → Recedes S d → along f d ≤ᶻ pos 0
Gains S f (Some d) = Flattest S f d

module _ (S : List Constraint) (f : Functional) (quadrant : Quadrant S) where
  module _ (lo hi : Ray) (w : Wedged S lo hi) where
    none-gains : along f lo ≤ᶻ pos 0 → along f hi ≤ᶻ pos 0 → (d : Ray) → Recedes S d → along f d ≤ᶻ pos 0
    none-gains p q d r =
        between-falls (normal-of f) lo hi d w.lo_forward.size w.hi-forward.size (w.after_lo d r) (w.before-hi d r)
        (nn_add (quadrant d r).0 (quadrant d r).1) p q

    lo_gains : pos 0 <ᶻ along f lo → Flattest S f lo
    lo_gains p =
        record {
          recedes = w.lo_recedes;
          forward = w.lo_forward;
          gains = p;
          candidate = w.lo_candidate;
          flattest = λ e r c g.
              w.after_lo e r;
        }

    hi-gains : along f lo ≤ᶻ pos 0 → pos 0 <ᶻ along f hi → Flattest S f hi
    hi-gains p q =
        record { recedes = w.hi-recedes; forward = w.hi-forward; gains = q; candidate = w.hi-candidate; flattest = steepest }
      where
        -- e is perpendicular to k's normal, so that k, which rises along neither lo nor hi, leaves e at one end; at lo nothing gains
        steepest : (e : Ray) → Recedes S e → Candidate S e → pos 0 <ᶻ along f e → pos 0 ≤ᶻ cross hi e
        steepest e r (k, i, inl s) g =
            subst (λ e. pos 0 ≤ᶻ cross hi e) (sym s)
            (nn_by (C ∷ R ∷ []) (λ k hi. hi.dx ⊗ ⊝ k.a ⊖ hi.dy ⊗ k.b ≐ ⊝ riseᵖ k hi) refl k hi (neg_nn (w.hi-recedes k i)))
        steepest e r (k, i, inr s) g =
            clash_ℤ g
            (between-falls (normal-of f) lo lo e w.lo_forward.size w.lo_forward.size (w.after_lo e r)
            (subst (λ e. pos 0 ≤ᶻ cross e lo) (sym s)
            (nn_by (C ∷ R ∷ []) (λ k lo. ⊝ k.b ⊗ lo.dy ⊖ k.a ⊗ lo.dx ≐ ⊝ riseᵖ k lo) refl k lo (neg_nn (w.lo_recedes k i))))
            (nn_add (quadrant e r).0 (quadrant e r).1) p p)

    wedge_gains :
        (x y : Bool) →
        (T x → pos 0 <ᶻ along f lo) →
        (T (not x) → along f lo ≤ᶻ pos 0) →
        (T y → pos 0 <ᶻ along f hi) →
        (T (not y) → along f hi ≤ᶻ pos 0) →
        Gains S f (elim x [ true ↦ Some lo | false ↦ elim y [ true ↦ Some hi | false ↦ None ] ])
    wedge_gains true y a b c d = lo_gains (a tt)
    wedge_gains false true a b c d = hi-gains (b tt) (c tt)
    wedge_gains false false a b c d = none-gains (b tt) (d tt)

  pub gaining-gains : (rays : Option (Ray × Ray)) → Spans S rays → Gains S f (gaining f rays)
  gaining-gains None s = λ d r. le_of_eq (along-null f d (s d r))
  gaining-gains (Some (lo, hi)) w =
      wedge_gains lo hi w (lt_z (pos 0) (along f lo)) (lt_z (pos 0) (along f hi)) (λ t. lt_z_yes t) (λ t. lt_z_no t) (λ t. lt_z_yes t)
      (λ t. lt_z_no t)
