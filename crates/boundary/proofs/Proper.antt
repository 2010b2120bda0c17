-- No pass over the entries is made but where nothing is left. h breaks a point (or a ray) of S, some point is feasible with h, and every
-- ray loses by the order in which the line of h is walked. Then h cuts the ring, and the end of its new edge in that direction is a
-- point: a corner on the horizon would be a ray that does not lose.
use mathlib.Core.Path.{◌≡◌, refl, sym, ◌∙◌, ap, subst}
use mathlib.Core.List.{List, [], ◌∷◌, ◌++◌, Memᴰ}
use mathlib.Core.Bool.{Bool, true, false, not}
use lib.Dec.{T}
use lib.IntN.{ℤ, pos, neg_ℤ, ◌+ℤ◌, ◌-ℤ◌, ◌*ℤ◌}
use Prim.Native.Nat.{suc}
use lib.ListN.{length}
use lib.Signed.{lt_z, lt_z_no, le_z_yes, clash_ℤ}
use Rattle.ints.specs.Order.{◌≤ᶻ◌, ◌<ᶻ◌}
use Rattle.ints.proofs.Ring.{ring, con, ◌⊕◌, ◌⊖◌, ◌⊗◌, ⊝◌, ◌≐◌}
use Rattle.ints.proofs.Order.{Sign, sign, minus, nought, plus, pos_nn, nn_zero, nn_neg, le_of_eq}
use Rattle.lp.specs.declared.Constraint.{Constraint}
use Rattle.lp.specs.declared.Functional.{Functional}
use Rattle.lp.specs.declared.Point.{Point}
use Rattle.lp.specs.declared.Ray.{Ray}
use Rattle.lp.specs.Program.{ray, slack, rise, Keeps, Feasible}
use Rattle.lp.specs.Outcome.{above, det, meet, reduce}
use Rattle.model.specs.Scan.{reversed, facing, direction}
use Rattle.model.specs.Step.{tightest_point}
use Rattle.theory.proofs.Lists.{for-members}
use Rattle.theory.proofs.Extension.{Extends, extended, for-extended}
use Rattle.theory.proofs.Direction.{Upward, Null, ray_path}
use Rattle.theory.proofs.Lexicographic.{Up}
use Rattle.theory.proofs.Crossing.{crossing, crossing-proper, crossing-keeps, crossing_on}
use Rattle.theory.proofs.Line.{on_line, before-meeting}
use Rattle.theory.proofs.Cone.{Recedes}
use Rattle.theory.proofs.Peak.{Falls, walked-up}
use Rattle.boundary.specs.Size.{horizon, turn}
use Rattle.boundary.specs.Ring.{keeps_at, sought, front, back, closed, entered}
use Rattle.boundary.specs.Quick.{nowhere, at, proper, end_of, last_of, end_in, placed, new_end, point_at}
use Rattle.boundary.proofs.Identities.{turn-self}
use Rattle.boundary.proofs.Corner.{KeepsAt, Corner, redundant}
use Rattle.boundary.proofs.Boundary.{Boundary, Placed, sought-placed}
use Rattle.boundary.proofs.Insert.{Encloses}
use Rattle.boundary.proofs.Grown.{horizon-slack}
use Rattle.boundary.proofs.Ends.{after, turned-d, turned-meet, end-tightest}
use Rattle.boundary.proofs.Quick.{way_last, placed_encloses}

-- a corner on the horizon, as a ray
abbrev far : Point → Ray
far m = ray m.x m.y

module _ (fs : List Functional) (O : Upward (Up fs)) (S : List Constraint) (h : Constraint) (falls : Falls (Up fs) (S ++ (h ∷ [])))
    (v w : Point) (v-proper : pos 0 ≤ᶻ v.d) (v-keeps : (r : Constraint) → Memᴰ r S → Keeps r v) (v-breaks : slack h v <ᶻ pos 0)
    (w-feasible : Feasible (S ++ (h ∷ [])) w) where
  ext : Extends S h (S ++ (h ∷ []))
  ext = extended S h

  -- a point on the line of h that keeps S
  abbrev z : Point
  z = crossing h v w

  w-keeps : Keeps h w
  w-keeps = w-feasible.kept h ext.new

  z-proper : pos 0 <ᶻ z.d
  z-proper = crossing-proper h v w v-breaks w-keeps v-proper w-feasible.proper

  z-keeps : (r : Constraint) → Memᴰ r S → Keeps r z
  z-keeps r i = crossing-keeps h v w v-breaks w-keeps r (v-keeps r i) (w-feasible.kept r (ext.old r i))

  module _ (D k l : Constraint) (up : Up fs (direction l)) (on : slack l z ≡ pos 0) (keeps-k : Keeps k z)
      (kept : (r : Constraint) → Memᴰ r (S ++ (h ∷ [])) → Keeps r (meet k l)) (forward : pos 0 ≤ᶻ det k l)
      (sized : pos 0 <ᶻ turn D k l) where
    abbrev m : Point
    m = meet k l

    -- on the horizon the corner is a ray along the line, which is walked upwards, and a ray of the system, which loses
    module _ (level : m.d ≡ pos 0) where
      ray-up : Up fs (far m)
      ray-up =
          O.cancel z.d (far m) z-proper
          (subst (Up fs) (ray_path (straight m.x z.x) (straight m.y z.y)) (before-meeting (Up fs) O k l z up on keeps-k))
        where
          straight : (x y : ℤ) → x *ℤ z.d -ℤ y *ℤ m.d ≡ z.d *ℤ x
          straight x y = ap (λ d. x *ℤ z.d -ℤ y *ℤ d) level ∙ ring 3 (λ x y d. x ⊗ d ⊖ y ⊗ con (pos 0) ≐ d ⊗ x) refl x y z.d

      ray-recedes : Recedes (S ++ (h ∷ [])) (far m)
      ray-recedes r i = nn_neg (subst (λ x. pos 0 ≤ᶻ x) lies (kept r i))
        where
          lies : slack r m ≡ neg_ℤ (rise r (far m))
          lies =
              ap (λ d. r.c *ℤ d -ℤ (r.a *ℤ m.x +ℤ r.b *ℤ m.y)) level
              ∙ ring 2 (λ c s. c ⊗ con (pos 0) ⊖ s ≐ ⊝ s) refl r.c (r.a *ℤ m.x +ℤ r.b *ℤ m.y)

      no_ray : ⊥
      no_ray = clash_ℤ sized (le_of_eq (nothing (O.antisymmetric (far m) ray-up (falls (far m) ray-recedes))))
        where
          nothing : Null (far m) → slack D m ≡ pos 0
          nothing n =
              (λ i. D.c *ℤ level i -ℤ (D.a *ℤ n.no_dx i +ℤ D.b *ℤ n.no_dy i))
              ∙ ring 3 (λ a b c. c ⊗ con (pos 0) ⊖ (a ⊗ con (pos 0) ⊕ b ⊗ con (pos 0)) ≐ con (pos 0)) refl D.a D.b D.c

    end-crosses : pos 0 <ᶻ det k l
    end-crosses = go (sign (det k l))
      where
        go : Sign (det k l) → pos 0 <ᶻ det k l
        go (minus n) = clash_ℤ n forward
        go (nought e) = absurd (no_ray e)
        go (plus p) = p

  -- h lies between k and e in a boundary of the entries with h: the end of its edge is the tightest point
  module _ (D k e : Constraint) (before : Corner D (after S h) k h) (next : Corner D (after S h) h e) where
    on-h : slack h z ≡ pos 0
    on-h = crossing_on h v w v-breaks w-keeps

    keeps-all : (r : Constraint) → Memᴰ r (after S h) → Keeps r z
    keeps-all =
        for-members (λ r. Keeps r z) horizon (S ++ (h ∷ [])) (subst (λ x. pos 0 ≤ᶻ x) (sym (horizon-slack z)) (pos_nn z-proper))
        (for-extended S (S ++ (h ∷ [])) h ext (λ r. Keeps r z) z-keeps (nn_zero on-h))

    forward-at : (p q : Constraint) → Corner D (after S h) p q → pos 0 ≤ᶻ det p q
    forward-at p q c = subst (λ x. pos 0 ≤ᶻ x) (horizon-slack (meet p q)) (c.kept horizon (Memᴰ.head refl))

    -- walked as it stands, the line of h is left at k
    before-crosses : Up fs (direction h) → pos 0 <ᶻ det k h
    before-crosses up =
        end-crosses D k h up on-h (keeps-all k before.first) (λ r i. before.kept r (Memᴰ.tail i)) (forward-at k h before)
        before.turns

    -- walked the other way, at e
    next-crosses : Up fs (direction (reversed h)) → pos 0 <ᶻ det h e
    next-crosses up =
        subst (λ x. pos 0 <ᶻ x) (turned-d h e)
        (end-crosses D e (reversed h) up (on_line false h z on-h) (keeps-all e next.second)
        (λ r i. subst (Keeps r) (sym (turned-meet h e)) (next.kept r (Memᴰ.tail i)))
        (subst (λ x. pos 0 ≤ᶻ x) (sym (turned-d h e)) (forward-at h e next))
        (subst (λ x. pos 0 <ᶻ slack D x) (sym (turned-meet h e)) next.turns))

    properly : (m : Point) → pos 0 <ᶻ m.d → proper m ≡ at (reduce m)
    properly m c = go (lt_z (pos 0) m.d) (λ t. lt_z_no t)
      where
        go : (b : Bool) → (T (not b) → m.d ≤ᶻ pos 0) → elim b [ true ↦ at (reduce m) | false ↦ nowhere ] ≡ at (reduce m)
        go true n = refl
        go false n = clash_ℤ c (n tt)

    some_end : (x : Point) × (end_of fs h k e ≡ at x)
    some_end = go (above fs (direction h)) (walked-up S (S ++ (h ∷ [])) h ext fs O)
      where
        go :
            (b : Bool) →
            Up fs (direction (facing b h)) →
            (x : Point) × (elim b [ true ↦ proper (meet k h) | false ↦ proper (meet h e) ] ≡ at x)
        go true up = (reduce (meet k h), properly (meet k h) (before-crosses up))
        go false up = (reduce (meet h e), properly (meet h e) (next-crosses up))

    pub end-found : end_of fs h k e ≡ at (tightest_point fs S h)
    end-found = some_end.1 ∙ ap at (sym (ap (point_at fs S h) some_end.1) ∙ end-tightest S h D k e before next fs)

  -- ---- in the ring

  module _ (D : Constraint) (v-sized : pos 0 ≤ᶻ slack D v) (w-sized : pos 0 <ᶻ slack D w) where
    w-keeps-all : (r : Constraint) → Memᴰ r (after S h) → Keeps r w
    w-keeps-all =
        for-members (λ r. Keeps r w) horizon (S ++ (h ∷ []))
        (subst (λ x. pos 0 ≤ᶻ x) (sym (horizon-slack w)) (pos_nn w-feasible.proper)) w-feasible.kept

    v-keeps-all : (r : Constraint) → Memᴰ r (horizon ∷ S) → Keeps r v
    v-keeps-all = for-members (λ r. Keeps r v) horizon S (subst (λ x. pos 0 ≤ᶻ x) (sym (horizon-slack v)) v-proper) v-keeps

    found_in_boundary : (l : List Constraint) → Boundary D (after S h) h l → end_in fs h (h ∷ l) ≡ at (tightest_point fs S h)
    found_in_boundary [] b = clash_ℤ b.edges.turns (le_of_eq (turn-self D h))
    found_in_boundary (e ∷ l) b = end-found D (last_of e l) e (way_last (Corner D (after S h)) e l h b.edges.1) b.edges.0

    found_in_closed :
        (m : List Constraint) →
        Encloses D (after S h) (closed h m) →
        end_in fs h (closed h m) ≡ at (tightest_point fs S h)
    found_in_closed [] none = absurd (none w w-sized w-keeps-all)
    found_in_closed (p ∷ []) none = absurd (none w w-sized w-keeps-all)
    found_in_closed (p ∷ q ∷ l) b = found_in_boundary (back h p (q ∷ l)) b

    found_in_placed :
        (m : List Constraint) →
        Placed D (horizon ∷ S) h m →
        Encloses D (after S h) (entered h m) →
        new_end fs h m ≡ at (tightest_point fs S h)
    found_in_placed [] p b = absurd p
    found_in_placed (k ∷ []) p b = absurd p
    found_in_placed (k ∷ e ∷ l) p b = go (keeps_at h k e) (λ t. le_z_yes t) b
      where
        here : Corner D (horizon ∷ S) k e
        here = p.1.edges.0

        go :
            (t : Bool) →
            (T t → KeepsAt h k e) →
            Encloses D (after S h) (elim t [ true ↦ k ∷ e ∷ l | false ↦ closed h (front h e (l ++ (k ∷ []))) ]) →
            elim t [ true ↦ nowhere | false ↦ end_in fs h (closed h (front h e (l ++ (k ∷ [])))) ] ≡ at (tightest_point fs S h)
        go true kept b =
            clash_ℤ v-breaks
            (redundant D h k e here.turns v (v-keeps-all k here.first) (v-keeps-all e here.second) v-sized p.0.from_first
            p.0.to-second (kept tt))
        go false kept b = found_in_closed (front h e (l ++ (k ∷ []))) b

    -- the end that h gets is the tightest point: no pass is made
    pub new-end-found :
        (ring : List Constraint) →
        Encloses D (horizon ∷ S) ring →
        new_end fs h (placed D h ring) ≡ at (tightest_point fs S h)
    new-end-found [] none = absurd (none w w-sized (λ r i. w-keeps-all r ((extended (horizon ∷ S) h).old r i)))
    new-end-found (k ∷ l) b =
        found_in_placed (sought D h (suc (length l)) k l) (sought-placed D (horizon ∷ S) h k l b) (placed_encloses D S h (k ∷ l) b)
