-- The enumeration of `lp` finds what is characterised: the peak of a system among its allowed vertices, and the flattest ray among its
-- lawful candidates.
use mathlib.Core.Path.{◌≡◌, refl, sym, ◌∙◌, ap, subst}
use mathlib.Core.List.Memᴰ
use mathlib.Core.List.{List, [], ◌∷◌, Memᴰ}
use mathlib.Core.Bool.{not}
use mathlib.Core.Logic.{◌⊎◌, inl, inr, ⊎_elim}
use lib.Dec.{T}
use lib.IntN.{pos, neg_ℤ, ◌+ℤ◌}
use lib.Signed.{le_z, lt_z, le_z_yes, lt_z_yes, lt_z_no, clash_ℤ}
use Rattle.ints.specs.Order.{◌≤ᶻ◌, ◌<ᶻ◌}
use Rattle.ints.proofs.Ring.{◌⊕◌, ◌⊗◌, ⊝◌, ◌≐◌, con}
use Rattle.ints.proofs.Order.{nn_add, nn_mul, nn_zero, nn_cancel, neg_nn, pos_nn, le_or_lt, le_of_eq}
use Rattle.lp.specs.declared.Constraint.{Constraint}
use Rattle.lp.specs.declared.Functional.{Functional}
use Rattle.lp.specs.declared.Point.{Point}
use Rattle.lp.specs.declared.Ray.{Ray}
use Rattle.lp.specs.Program.{ray, Feasible, along, rise, between}
use Rattle.lp.specs.Textbook.{Infeasible}
use Rattle.lp.specs.Outcome.{keep, every, pick, vertices, keeps, allowed, better, candidates, lawful, cross, flatter, reduce_ray}
use Rattle.model.specs.Scan.{direction}
use Rattle.theory.proofs.Solver.{equal, nn_by, P, R, crossᵖ, betweenᵖ}
use Rattle.theory.proofs.Lists.{and_left, and_right, and_both, every-at, every_of, keep-member, keep-test, member-keep, Picked}
use Rattle.theory.proofs.Lists.{picked}
use Rattle.theory.proofs.Direction.{null_of_size, along-null, Upward, AtMost, ray_path, at-most_trans, at-most-both}
use Rattle.theory.proofs.Lexicographic.{Up, above-up, not-above-up, up-null}
use Rattle.theory.proofs.Cone.{Recedes, Quadrant, Forward, Candidate, Flattest}
use Rattle.theory.proofs.Slopes.{same-slope}
use Rattle.theory.proofs.Reduction.{lowest-unique}
use Rattle.theory.proofs.Vertex.{Vertex, vertex-proper, vertex-lowest, listed-vertex, vertex-listed}
use Rattle.theory.proofs.Peak.{Peak}

no_members : {A : Type 0} (l : List A) → ((x : A) → Memᴰ x l → ⊥) → l ≡ []
no_members [] f = refl
no_members (x ∷ l) f = absurd (f x (Memᴰ.head refl))

-- ---- allowed vertices

module _ (S : List Constraint) where
  abbrev pub allowed_vertices : List Point
  allowed_vertices = keep (allowed S) (vertices S)

  allowed-feasible : (v : Point) → pos 0 <ᶻ v.d → T (allowed S v) → Feasible S v
  allowed-feasible v h t = record { proper = h; kept = λ r i. le_z_yes (every-at (λ r. keeps r v) S t r i) }

  pub vertex_of : (v : Point) → Memᴰ v allowed_vertices → Vertex S v
  vertex_of v i = listed-vertex S v (keep-member (allowed S) (vertices S) v i)

  pub feasible_of : (v : Point) → Memᴰ v allowed_vertices → Feasible S v
  feasible_of v i = allowed-feasible v (vertex-proper S v (vertex_of v i)) (keep-test (allowed S) (vertices S) v i)

  pub feasible-listed : (v : Point) → Vertex S v → Feasible S v → Memᴰ v allowed_vertices
  feasible-listed v x f =
      member-keep (allowed S) (vertices S) v (vertex-listed S v x) (every_of (λ r. keeps r v) S (λ r i. (f.kept r i).le))

  pub none_allowed : Infeasible S → allowed_vertices ≡ []
  none_allowed no-point = no_members allowed_vertices (λ v i. no-point v (feasible_of v i))

  -- the peak is picked
  module _ (fs : List Functional) (O : Upward (Up fs)) where
    at-most-self : (v : Point) → AtMost (Up fs) v v
    at-most-self v =
        up-null fs (between v v)
        (record {
          no_dx = equal (P ∷ []) (λ v. (betweenᵖ v v).dx ≐ con (pos 0)) refl v;
          no_dy = equal (P ∷ []) (λ v. (betweenᵖ v v).dy ≐ con (pos 0)) refl v;
        })

    not-better-at-most : (v w : Point) → T (not (better fs w v)) → AtMost (Up fs) w v
    not-better-at-most v w t =
        subst (Up fs) (ray_path (equal (P ∷ P ∷ []) (λ v w. ⊝ (betweenᵖ v w).dx ≐ (betweenᵖ w v).dx) refl v w)
        (equal (P ∷ P ∷ []) (λ v w. ⊝ (betweenᵖ v w).dy ≐ (betweenᵖ w v).dy) refl v w)) (not-above-up fs (between v w) t)

    pub peak-picked :
        (p : Point) →
        Peak (Up fs) S p →
        (v : Point) (vs : List Point) →
        allowed_vertices ≡ v ∷ vs →
        pick (better fs) v vs ≡ p
    peak-picked p peak v vs e =
        lowest-unique q p (vertex-proper S q q-vertex) (vertex-proper S p peak.vertex) (vertex-lowest S q q-vertex)
        (vertex-lowest S p peak.vertex)
        (at-most-both (Up fs) O q p (peak.greatest q (feasible_of q q-listed)) (choice.first p p-listed))
      where
        q : Point
        q = pick (better fs) v vs

        choice :
            Picked (better fs) (λ x. pos 0 <ᶻ x.d) (AtMost (Up fs)) (λ x h. at-most-self x)
            (λ x y z hx hy hz. at-most_trans (Up fs) O x y z (pos_nn hx) hy (pos_nn hz)) (λ x y hx hy t. above-up fs (between x y) t)
            (λ x y hx hy t. not-better-at-most x y t) v vs q
        choice =
            picked (better fs) (λ x. pos 0 <ᶻ x.d) (AtMost (Up fs)) (λ x h. at-most-self x)
            (λ x y z hx hy hz. at-most_trans (Up fs) O x y z (pos_nn hx) hy (pos_nn hz)) (λ x y hx hy t. above-up fs (between x y) t)
            (λ x y hx hy t. not-better-at-most x y t) v vs
            (λ x i. vertex-proper S x (vertex_of x (subst (λ l. Memᴰ x l) (sym e) i)))

        q-listed : Memᴰ q allowed_vertices
        q-listed = subst (λ l. Memᴰ q l) (sym e) choice.member

        q-vertex : Vertex S q
        q-vertex = vertex_of q q-listed

        p-listed : Memᴰ p (v ∷ vs)
        p-listed = subst (λ l. Memᴰ p l) e (feasible-listed p peak.vertex peak.feasible)

-- ---- lawful candidates

listed-candidate : (S : List Constraint) (d : Ray) → Memᴰ d (candidates S) → Candidate S d
listed-candidate [] d i = absurd (Memᴰ.not-nil i)
listed-candidate (r ∷ S) d i =
    ⊎_elim (λ e. (r, Memᴰ.head refl, inl e))
    (λ j. ⊎_elim (λ e. (r, Memᴰ.head refl, inr e)) (λ k. later (listed-candidate S d k)) (Memᴰ.cases_cons j))
    (Memᴰ.cases_cons i)
  where
    later : Candidate S d → Candidate (r ∷ S) d
    later (s, j, e) = (s, Memᴰ.tail j, e)

candidate-listed :
    (S : List Constraint) (d : Ray) (r : Constraint) →
    Memᴰ r S →
    (d ≡ direction r) ⊎ (d ≡ ray (neg_ℤ r.b) r.a) →
    Memᴰ d (candidates S)
candidate-listed [] d r i e = absurd (Memᴰ.not-nil i)
candidate-listed (s ∷ S) d r i e = go (Memᴰ.cases_cons i) e (λ j. candidate-listed S d r j e)
  where
    go :
        (r ≡ s) ⊎ Memᴰ r S →
        (d ≡ direction r) ⊎ (d ≡ ray (neg_ℤ r.b) r.a) →
        (Memᴰ r S → Memᴰ d (candidates S)) →
        Memᴰ d (candidates (s ∷ S))
    go (inl q) (inl p) f = Memᴰ.head (p ∙ ap direction q)
    go (inl q) (inr p) f = Memᴰ.tail (Memᴰ.head (p ∙ ap (λ z. ray (neg_ℤ z.b) z.a) q))
    go (inr j) p f = Memᴰ.tail (Memᴰ.tail (f j))

module _ (S : List Constraint) (f : Functional) where
  abbrev pub lawful_rays : List Ray
  lawful_rays = keep (lawful S f) (candidates S)

  pub lawful-recedes : (d : Ray) → T (lawful S f d) → Recedes S d
  lawful-recedes d t r i =
      le_z_yes (every-at (λ r. le_z (rise r d) (pos 0)) S (and_left (every (λ r. le_z (rise r d) (pos 0)) S) (lt_z (pos 0) (along f d)) t) r i)

  pub lawful-gains : (d : Ray) → T (lawful S f d) → pos 0 <ᶻ along f d
  lawful-gains d t = lt_z_yes (and_right (every (λ r. le_z (rise r d) (pos 0)) S) (lt_z (pos 0) (along f d)) t)

  pub lawful_of : (d : Ray) → Recedes S d → pos 0 <ᶻ along f d → T (lawful S f d)
  lawful_of d r g =
      and_both (every (λ r. le_z (rise r d) (pos 0)) S) (lt_z (pos 0) (along f d))
      (every_of (λ r. le_z (rise r d) (pos 0)) S (λ s i. (r s i).le)) g.lt

  pub no_lawful_rays : ((d : Ray) → Recedes S d → along f d ≤ᶻ pos 0) → lawful_rays ≡ []
  no_lawful_rays falls =
      no_members lawful_rays (λ d i. clash_ℤ (lawful-gains d (keep-test (lawful S f) (candidates S) d i))
      (falls d (lawful-recedes d (keep-test (lawful S f) (candidates S) d i))))

  pub flattest-listed : (d : Ray) → Flattest S f d → Memᴰ d lawful_rays
  flattest-listed d x =
      member-keep (lawful S f) (candidates S) d (candidate-listed S d x.candidate.0 x.candidate.1 x.candidate.2)
      (lawful_of d x.recedes x.gains)

  module _ (quadrant : Quadrant S) where
    -- a ray that gains is not 0
    forward_of : (d : Ray) → Recedes S d → pos 0 <ᶻ along f d → Forward d
    forward_of d r g = record { nn_dx = (quadrant d r).0; nn_dy = (quadrant d r).1; size = go (le_or_lt (d.dx +ℤ d.dy) (pos 0)) }
      where
        go : (d.dx +ℤ d.dy ≤ᶻ pos 0) ⊎ (pos 0 <ᶻ d.dx +ℤ d.dy) → pos 0 <ᶻ d.dx +ℤ d.dy
        go (inl z) = clash_ℤ g (le_of_eq (along-null f d (null_of_size d (quadrant d r).0 (quadrant d r).1 z)))
        go (inr s) = s

    -- e is at most as good as d: its slope is not smaller
    abbrev Steeper : Ray → Ray → Type 0
    Steeper e d = pos 0 ≤ᶻ cross d e

    steeper_self : (d : Ray) → Forward d → Steeper d d
    steeper_self d h = nn_zero (equal (R ∷ []) (λ d. crossᵖ d d ≐ con (pos 0)) refl d)

    steeper_trans : (x y z : Ray) → Forward x → Forward y → Forward z → Steeper x y → Steeper y z → Steeper x z
    steeper_trans x y z hx hy hz p q =
        nn_cancel hy.size
        (nn_by (R ∷ R ∷ R ∷ []) (λ x y z. (y.dx ⊕ y.dy) ⊗ crossᵖ z x ≐ crossᵖ z y ⊗ (x.dx ⊕ x.dy) ⊕ crossᵖ y x ⊗ (z.dx ⊕ z.dy)) refl
        x y z
        (nn_add (nn_mul q (pos_nn hx.size)) (nn_mul p (pos_nn hz.size))))

    not-flatter : (x y : Ray) → T (not (flatter y x)) → Steeper y x
    not-flatter x y t = nn_by (R ∷ R ∷ []) (λ x y. crossᵖ x y ≐ ⊝ crossᵖ y x) refl x y (neg_nn {z = cross y x} (lt_z_no t))

    pub flattest-picked :
        (d : Ray) →
        Flattest S f d →
        (e : Ray) (es : List Ray) →
        lawful_rays ≡ e ∷ es →
        reduce_ray (pick flatter e es) ≡ reduce_ray d
    flattest-picked d x e es eq =
        same-slope q d (forward q q-listed) x.forward (choice.first d (subst (λ l. Memᴰ d l) eq (flattest-listed d x)))
        (x.flattest q (lawful-recedes q (keep-test (lawful S f) (candidates S) q q-listed))
        (listed-candidate S q (keep-member (lawful S f) (candidates S) q q-listed))
        (lawful-gains q (keep-test (lawful S f) (candidates S) q q-listed)))
      where
        q : Ray
        q = pick flatter e es

        forward : (y : Ray) → Memᴰ y lawful_rays → Forward y
        forward y i =
            forward_of y (lawful-recedes y (keep-test (lawful S f) (candidates S) y i))
            (lawful-gains y (keep-test (lawful S f) (candidates S) y i))

        choice :
            Picked flatter Forward Steeper steeper_self steeper_trans (λ x y hx hy t. pos_nn (lt_z_yes t))
            (λ x y hx hy t. not-flatter x y t) e es q
        choice =
            picked flatter Forward Steeper steeper_self steeper_trans (λ x y hx hy t. pos_nn (lt_z_yes t))
            (λ x y hx hy t. not-flatter x y t) e es
            (λ y i. forward y (subst (λ l. Memᴰ y l) (sym eq) i))

        q-listed : Memᴰ q lawful_rays
        q-listed = subst (λ l. Memᴰ q l) (sym eq) choice.member
