-- The corners of a system's ring are exactly its feasible vertices, each point in lowest terms, and there are none exactly where the
-- system is infeasible. A vertex lies on two entries r and s; their sum is least there, so that the neighbours around the sum's
-- direction meet in a point that lies on r and on s too. Where there is a point at all, the neighbours around the direction away from
-- the horizon meet in one.
use mathlib.Core.Path.{◌≡◌, refl, sym, ◌∙◌, ap, ap₂, subst}
use mathlib.Core.List.Memᴰ
use mathlib.Core.List.{List, [], ◌∷◌, Memᴰ}
use mathlib.Core.Bool.{Bool, true, false, not}
use mathlib.Core.Logic.{◌⊎◌, inl, inr, ⊎_elim, ◌↔◌}
use lib.Dec.{T}
use lib.IntN.{ℤ, pos, negsuc, neg_ℤ, ◌+ℤ◌, ◌-ℤ◌, ◌*ℤ◌}
use lib.Signed.{lt_z, lt_z_yes, lt_z_no, clash_ℤ}
use Rattle.ints.specs.Order.{◌≤ᶻ◌, ◌<ᶻ◌}
use Rattle.ints.specs.Gcd.{gcd3}
use Rattle.ints.proofs.Ring.{ring, con, ◌⊕◌, ◌⊖◌, ◌⊗◌, ⊝◌, ◌≐◌}
use Rattle.ints.proofs.Order.{nn_add, nn_mul, nn_cancel, pos_nn, pos-mul, pos-cancel, zero-cancel, neg_pos, nn_neg, neg_nn}
use Rattle.ints.proofs.Order.{antisymmetric, le_or_lt, le_of_eq}
use Rattle.lp.specs.declared.Constraint.{Constraint}
use Rattle.lp.specs.declared.Floors.{Floors}
use Rattle.lp.specs.declared.Point.{Point}
use Rattle.lp.specs.Program.{constraint, slack, Keeps, Feasible, between, system}
use Rattle.lp.specs.Outcome.{det, meet, reduce}
use Rattle.lp.specs.Textbook.{Infeasible}
use Rattle.model.specs.Scan.{reversed}
use Rattle.theory.proofs.Solver.{equal, C, P, slackᵖ, meetᵖ, betweenᵖ}
use Rattle.theory.proofs.Direction.{Null}
use Rattle.theory.proofs.Line.{cramer, meet-on-first, meet-on-second}
use Rattle.theory.proofs.Reduction.{Multiple, multiple-slack, keeps-lowest, reduced-multiple, reduced-proper, reduced-lowest, lowest-unique}
use Rattle.theory.proofs.Vertex.{Vertex}
use Rattle.theory.proofs.Enumeration.{allowed_vertices, vertex_of, feasible_of, feasible-listed}
use Rattle.boundary.specs.Size.{size, horizon, turn}
use Rattle.boundary.specs.Ring.{listed, corners_from, corners}
use Rattle.boundary.proofs.Identities.{by-corner}
use Rattle.boundary.proofs.Corner.{KeepsAt, Corner, redundant}
use Rattle.boundary.proofs.Ways.{Some, some_way, some-map}
use Rattle.boundary.proofs.Place.{AtPlace}
use Rattle.boundary.proofs.Boundary.{boundary_place}
use Rattle.boundary.proofs.Insert.{Encloses}
use Rattle.boundary.proofs.Grown.{framed, feasible-sized, feasible-framed}

-- ---- the list of corners

-- p and q meet in the point v
pub record Meets (v : Point) (p q : Constraint) : Type 0 where
  pub crosses : pos 0 <ᶻ det p q
  pub lowest : v ≡ reduce (meet p q)

listed_cases : (p q : Constraint) (vs : List Point) (v : Point) → Memᴰ v (listed p q vs) → Meets v p q ⊎ Memᴰ v vs
listed_cases p q vs v = go (lt_z (pos 0) (det p q)) (λ t. lt_z_yes t)
  where
    found : pos 0 <ᶻ det p q → (v ≡ reduce (meet p q)) ⊎ Memᴰ v vs → Meets v p q ⊎ Memᴰ v vs
    found c (inl e) = inl (record { crosses = c; lowest = e })
    found c (inr j) = inr j

    go :
        (b : Bool) →
        (T b → pos 0 <ᶻ det p q) →
        Memᴰ v (elim b [ true ↦ reduce (meet p q) ∷ vs | false ↦ vs ]) →
        Meets v p q ⊎ Memᴰ v vs
    go true y i = found (y tt) (Memᴰ.cases_cons i)
    go false y i = inr i

listed_here : (p q : Constraint) (vs : List Point) (v : Point) → Meets v p q → Memᴰ v (listed p q vs)
listed_here p q vs v m = go (lt_z (pos 0) (det p q)) (λ t. lt_z_no t)
  where
    go : (b : Bool) → (T (not b) → det p q ≤ᶻ pos 0) → Memᴰ v (elim b [ true ↦ reduce (meet p q) ∷ vs | false ↦ vs ])
    go true n = Memᴰ.head m.lowest
    go false n = clash_ℤ m.crosses (n tt)

listed-later : (p q : Constraint) (vs : List Point) (v : Point) → Memᴰ v vs → Memᴰ v (listed p q vs)
listed-later p q vs v i = go (lt_z (pos 0) (det p q))
  where
    go : (b : Bool) → Memᴰ v (elim b [ true ↦ reduce (meet p q) ∷ vs | false ↦ vs ])
    go true = Memᴰ.tail i
    go false = i

listed-some : (v : Point) (p : Constraint) (l : List Constraint) (e : Constraint) → Memᴰ v (corners_from e p l) → Some (Meets v) p l e
listed-some v p [] e i = ⊎_elim (λ m. m) (λ j. absurd (Memᴰ.not-nil j)) (listed_cases p e [] v i)
listed-some v p (q ∷ l) e i = go (listed_cases p q (corners_from e q l) v i) (listed-some v q l e)
  where
    go :
        Meets v p q ⊎ Memᴰ v (corners_from e q l) →
        (Memᴰ v (corners_from e q l) → Some (Meets v) q l e) →
        Some (Meets v) p (q ∷ l) e
    go (inl m) f = inl m
    go (inr j) f = inr (f j)

some-listed : (v : Point) (p : Constraint) (l : List Constraint) (e : Constraint) → Some (Meets v) p l e → Memᴰ v (corners_from e p l)
some-listed v p [] e m = listed_here p e [] v m
some-listed v p (q ∷ l) e (inl m) = listed_here p q (corners_from e q l) v m
some-listed v p (q ∷ l) e (inr s) = listed-later p q (corners_from e q l) v (some-listed v q l e s)

abbrev Crosses : Constraint → Constraint → Type 0
Crosses p q = pos 0 <ᶻ det p q

crossing-listed :
    (p : Constraint) (l : List Constraint) (e : Constraint) →
    Some Crosses p l e →
    (w : Point) × Memᴰ w (corners_from e p l)
crossing-listed p [] e c = (reduce (meet p e), listed_here p e [] (reduce (meet p e)) (record { crosses = c; lowest = refl }))
crossing-listed p (q ∷ l) e (inl c) =
    (reduce (meet p q), listed_here p q (corners_from e q l) (reduce (meet p q)) (record { crosses = c; lowest = refl }))
crossing-listed p (q ∷ l) e (inr s) = later (crossing-listed q l e s)
  where
    later : (w : Point) × Memᴰ w (corners_from e q l) → (w : Point) × Memᴰ w (corners_from e p (q ∷ l))
    later (w, i) = (w, listed-later p q (corners_from e q l) w i)

no_members : (l : List Point) → ((x : Point) → Memᴰ x l → ⊥) → l ≡ []
no_members [] f = refl
no_members (x ∷ l) f = absurd (f x (Memᴰ.head refl))

-- ---- one point, in lowest terms

pub same-lowest : (v w : Point) → pos 0 <ᶻ v.d → pos 0 <ᶻ w.d → Null (between v w) → reduce v ≡ reduce w
same-lowest v w hv hw n =
    lowest-unique (reduce v) (reduce w) (reduced-proper v hv) (reduced-proper w hw) (reduced-lowest v hv) (reduced-lowest w hw)
    (record {
      no_dx = level (reduce w).x (reduce v).x w.x v.x of_w.on-x of_v.on-x n.no_dx;
      no_dy = level (reduce w).y (reduce v).y w.y v.y of_w.on-y of_v.on-y n.no_dy;
    })
  where
    j : ℤ
    j = pos (gcd3 v.x v.y v.d)

    k : ℤ
    k = pos (gcd3 w.x w.y w.d)

    of_v : Multiple j (reduce v) v
    of_v = reduced-multiple v hv

    of_w : Multiple k (reduce w) w
    of_w = reduced-multiple w hw

    level :
        (s r s' r' : ℤ) →
        k *ℤ s ≡ s' →
        j *ℤ r ≡ r' →
        s' *ℤ v.d -ℤ r' *ℤ w.d ≡ pos 0 →
        s *ℤ (reduce v).d -ℤ r *ℤ (reduce w).d ≡ pos 0
    level s r s' r' p q e =
        zero-cancel (pos-mul of_v.positive of_w.positive)
        (ring 6 (λ j k s r d g. j ⊗ k ⊗ (s ⊗ d ⊖ r ⊗ g) ≐ (k ⊗ s) ⊗ (j ⊗ d) ⊖ (j ⊗ r) ⊗ (k ⊗ g)) refl j k s r (reduce v).d (reduce w).d
        ∙ (λ i. p i *ℤ of_v.on-d i -ℤ q i *ℤ of_w.on-d i)
        ∙ e)

-- ---- points that lie on two lines that cross

module _ (D r s : Constraint) (crosses : pos 0 <ᶻ det r s) (m : Point) (on-r : slack r m ≡ pos 0) (on-s : slack s m ≡ pos 0) where
  drop : (t z : ℤ) → slack r m *ℤ t +ℤ slack s m *ℤ z ≡ pos 0
  drop t z = (λ i. on-r i *ℤ t +ℤ on-s i *ℤ z) ∙ ring 2 (λ t z. con (pos 0) ⊗ t ⊕ con (pos 0) ⊗ z ≐ con (pos 0)) refl t z

  pub on_both : Null (between m (meet r s))
  on_both =
      record {
        no_dx =
            equal (C ∷ C ∷ P ∷ []) (λ r s m. (betweenᵖ m (meetᵖ r s)).dx ≐ slackᵖ r m ⊗ s.b ⊕ slackᵖ s m ⊗ ⊝ r.b) refl r s m
            ∙ drop s.b (neg_ℤ r.b);
        no_dy =
            equal (C ∷ C ∷ P ∷ []) (λ r s m. (betweenᵖ m (meetᵖ r s)).dy ≐ slackᵖ r m ⊗ ⊝ s.a ⊕ slackᵖ s m ⊗ r.a) refl r s m
            ∙ drop (neg_ℤ s.a) r.a;
      }

  -- if both have a size, both have a denominator
  pub on-both-proper : pos 0 <ᶻ slack D (meet r s) → pos 0 <ᶻ slack D m → pos 0 <ᶻ m.d
  on-both-proper sized sized-m =
      pos-cancel sized
      (subst (λ z. pos 0 <ᶻ z) (sym (cramer D r s m ∙ (λ i. det r s *ℤ slack D m +ℤ det s D *ℤ on-r i +ℤ det D r *ℤ on-s i)
      ∙ ring 3 (λ z t u. z ⊕ t ⊗ con (pos 0) ⊕ u ⊗ con (pos 0) ≐ z) refl (det r s *ℤ slack D m) (det s D) (det D r)))
      (pos-mul crosses sized-m))

-- ---- the sum of two constraints

abbrev sum : Constraint → Constraint → Constraint
sum r s = constraint (r.a +ℤ s.a) (r.b +ℤ s.b) (r.c +ℤ s.c)

sum-slack : (r s : Constraint) (v : Point) → slack (sum r s) v ≡ slack r v +ℤ slack s v
sum-slack =
    equal (C ∷ C ∷ P ∷ [])
    (λ r s v. (r.c ⊕ s.c) ⊗ v.d ⊖ ((r.a ⊕ s.a) ⊗ v.x ⊕ (r.b ⊕ s.b) ⊗ v.y) ≐ slackᵖ r v ⊕ slackᵖ s v) refl

-- two numbers that are not negative, with a sum that is not positive
no_sum : (y z : ℤ) → pos 0 ≤ᶻ y → pos 0 ≤ᶻ z → y +ℤ z ≤ᶻ pos 0 → y ≡ pos 0
no_sum y z hy hz h =
    antisymmetric (nn_neg (subst (λ x. pos 0 ≤ᶻ x) (ring 2 (λ y z. ⊝ (y ⊕ z) ⊕ z ≐ ⊝ y) refl y z) (nn_add (neg_nn h) hz))) hy

module _ (D r s p q : Constraint) (turns : pos 0 <ᶻ turn D p q) (place : AtPlace D (sum r s) p q) (at-r : KeepsAt r p q)
    (at-s : KeepsAt s p q) (v : Point) (sized : pos 0 <ᶻ slack D v) (on-r : slack r v ≡ pos 0) (on-s : slack s v ≡ pos 0)
    (keeps-p : Keeps p v) (keeps-q : Keeps q v) where
  -- the neighbours around the sum meet where it is least, and at v it is 0
  least : slack r (meet p q) +ℤ slack s (meet p q) ≤ᶻ pos 0
  least =
      nn_neg (nn_cancel sized (subst (λ z. pos 0 ≤ᶻ z) weighed
      (nn_add (nn_mul place.to-second keeps-p) (nn_mul place.from_first keeps-q))))
    where
      none : turn D p q *ℤ slack (sum r s) v ≡ pos 0
      none =
          ap (λ z. turn D p q *ℤ z) (sum-slack r s v ∙ ap₂ (λ y z. y +ℤ z) on-r on-s)
          ∙ ring 1 (λ t. t ⊗ (con (pos 0) ⊕ con (pos 0)) ≐ con (pos 0)) refl (turn D p q)

      weighed :
          turn D (sum r s) q *ℤ slack p v +ℤ turn D p (sum r s) *ℤ slack q v
          ≡ slack D v *ℤ neg_ℤ (slack r (meet p q) +ℤ slack s (meet p q))
      weighed =
          ring 3 (λ a b c. b ⊕ c ≐ (a ⊕ b ⊕ c) ⊖ a) refl (slack (sum r s) (meet p q) *ℤ slack D v) (turn D (sum r s) q *ℤ slack p v)
          (turn D p (sum r s) *ℤ slack q v)
          ∙ ap (λ z. z -ℤ slack (sum r s) (meet p q) *ℤ slack D v) (sym (by-corner D (sum r s) p q v) ∙ none)
          ∙ ap (λ z. pos 0 -ℤ z *ℤ slack D v) (sum-slack r s (meet p q))
          ∙ ring 2 (λ z d. con (pos 0) ⊖ z ⊗ d ≐ d ⊗ ⊝ z) refl (slack r (meet p q) +ℤ slack s (meet p q)) (slack D v)

  pub least-on-first : slack r (meet p q) ≡ pos 0
  least-on-first = no_sum (slack r (meet p q)) (slack s (meet p q)) at-r at-s least

  pub least-on-second : slack s (meet p q) ≡ pos 0
  least-on-second =
      no_sum (slack s (meet p q)) (slack r (meet p q)) at-s at-r
      (subst (λ z. z ≤ᶻ pos 0) (ring 2 (λ y z. y ⊕ z ≐ z ⊕ y) refl (slack r (meet p q)) (slack s (meet p q))) least)

-- ---- the theorems, for any ring that encloses what the system allows

no_horizon : (q : Constraint) → det horizon q ≡ pos 0
no_horizon = equal (C ∷ []) (λ q. con (pos 0) ⊗ q.b ⊖ q.a ⊗ con (pos 0) ≐ con (pos 0)) refl

no_horizon_after : (p : Constraint) → det p horizon ≡ pos 0
no_horizon_after = equal (C ∷ []) (λ p. p.a ⊗ con (pos 0) ⊖ con (pos 0) ⊗ p.b ≐ con (pos 0)) refl

module _ (f : Floors) (rules : List Constraint) where
  abbrev S : List Constraint
  S = system f rules

  abbrev D : Constraint
  D = size f

  -- neighbours that cross are entries of the system
  crossing-first : (p q : Constraint) → Memᴰ p (framed f rules) → pos 0 <ᶻ det p q → Memᴰ p S
  crossing-first p q i c =
      ⊎_elim (λ e. clash_ℤ c (le_of_eq (ap (λ z. det z q) e ∙ no_horizon q))) (λ j. j) (Memᴰ.cases_cons i)

  crossing-second : (p q : Constraint) → Memᴰ q (framed f rules) → pos 0 <ᶻ det p q → Memᴰ q S
  crossing-second p q i c =
      ⊎_elim (λ e. clash_ℤ c (le_of_eq (ap (λ z. det p z) e ∙ no_horizon_after p))) (λ j. j) (Memᴰ.cases_cons i)

  module _ (v : Point) (p q : Constraint) (c : Corner D (framed f rules) p q) (m : Meets v p q) where
    pub meets-feasible : Feasible S v
    meets-feasible =
        record {
          proper = subst (λ z. pos 0 <ᶻ z.d) (sym m.lowest) (reduced-proper (meet p q) m.crosses);
          kept = λ r i. subst (Keeps r) (sym m.lowest)
              (keeps-lowest _ (reduce (meet p q)) (meet p q) (reduced-multiple (meet p q) m.crosses) r (c.kept r (Memᴰ.tail i)));
        }

    pub meets-vertex : Vertex S v
    meets-vertex =
        record {
          one = p;
          other = q;
          one-member = crossing-first p q c.first m.crosses;
          other-member = crossing-second p q c.second m.crosses;
          crosses = m.crosses;
          lowest = m.lowest;
        }

  -- neighbours around the sum of two entries that cross in v meet in v
  module _ (v : Point) (feasible : Feasible S v) (x : Vertex S v) where
    abbrev r : Constraint
    r = x.one

    abbrev s : Constraint
    s = x.other

    abbrev u : Point
    u = meet r s

    whole : Multiple (pos (gcd3 u.x u.y u.d)) v u
    whole = subst (λ z. Multiple (pos (gcd3 u.x u.y u.d)) z u) (sym x.lowest) (reduced-multiple u x.crosses)

    on-r : slack r v ≡ pos 0
    on-r = zero-cancel whole.positive (multiple-slack _ v (meet r s) whole r ∙ meet-on-first r s)

    on-s : slack s v ≡ pos 0
    on-s = zero-cancel whole.positive (multiple-slack _ v (meet r s) whole s ∙ meet-on-second r s)

    module _ (p q : Constraint) (c : Corner D (framed f rules) p q) (place : AtPlace D (sum r s) p q) where
      keeps-r : KeepsAt r p q
      keeps-r = c.kept r (Memᴰ.tail x.one-member)

      keeps-s : KeepsAt s p q
      keeps-s = c.kept s (Memᴰ.tail x.other-member)

      at-r : slack r (meet p q) ≡ pos 0
      at-r =
          least-on-first D r s p q c.turns place keeps-r keeps-s v (feasible-sized f rules v feasible) on-r on-s
          (feasible-framed f rules v feasible p c.first) (feasible-framed f rules v feasible q c.second)

      at-s : slack s (meet p q) ≡ pos 0
      at-s =
          least-on-second D r s p q c.turns place keeps-r keeps-s v (feasible-sized f rules v feasible) on-r on-s
          (feasible-framed f rules v feasible p c.first) (feasible-framed f rules v feasible q c.second)

      sized : pos 0 <ᶻ slack D u
      sized = subst (λ z. pos 0 <ᶻ z) (multiple-slack _ v u whole D) (pos-mul whole.positive (feasible-sized f rules v feasible))

      meets-properly : pos 0 <ᶻ det p q
      meets-properly = on-both-proper D r s x.crosses (meet p q) at-r at-s sized c.turns

      one-point : Null (between (meet p q) u)
      one-point = on_both D r s x.crosses (meet p q) at-r at-s

      vertex-meets : Meets v p q
      vertex-meets =
          record { crosses = meets-properly; lowest = x.lowest ∙ sym (same-lowest (meet p q) u meets-properly x.crosses one-point) }

  -- neighbours around the direction away from the horizon meet in a point
  away-crosses :
      (v : Point) →
      Feasible S v →
      (p q : Constraint) →
      Corner D (framed f rules) p q →
      AtPlace D (reversed horizon) p q →
      Crosses p q
  away-crosses v feasible p q c place = go (le_or_lt (pos 0) (slack (reversed horizon) (meet p q)))
    where
      away : (w : Point) → slack (reversed horizon) w ≡ neg_ℤ w.d
      away = equal (P ∷ []) (λ w. con (negsuc 0) ⊗ w.d ⊖ (con (pos 0) ⊗ w.x ⊕ con (pos 0) ⊗ w.y) ≐ ⊝ w.d) refl

      go : KeepsAt (reversed horizon) p q ⊎ (slack (reversed horizon) (meet p q) <ᶻ pos 0) → pos 0 <ᶻ det p q
      go (inl kept) =
          clash_ℤ feasible.proper
          (nn_neg (subst (λ z. pos 0 ≤ᶻ z) (away v)
          (redundant D (reversed horizon) p q c.turns v (feasible-framed f rules v feasible p c.first)
          (feasible-framed f rules v feasible q c.second) (pos_nn (feasible-sized f rules v feasible)) place.from_first
          place.to-second kept)))
      go (inr broken) =
          subst (λ z. pos 0 <ᶻ z) (ring 1 (λ z. ⊝ (⊝ z) ≐ z) refl (det p q))
          (neg_pos (subst (λ z. z <ᶻ pos 0) (away (meet p q)) broken))

  corner-means :
      (l : List Constraint) →
      Encloses D (framed f rules) l →
      (v : Point) →
      Memᴰ v (corners l) →
      Feasible S v × Vertex S v
  corner-means [] e v i = absurd (Memᴰ.not-nil i)
  corner-means (k ∷ l) e v i =
      go (some_way (Corner D (framed f rules)) (Meets v) k l k e.edges (listed-some v k l k i))
    where
      go : (p : Constraint) × (q : Constraint) × Corner D (framed f rules) p q × Meets v p q → Feasible S v × Vertex S v
      go (p, q, c, m) = (meets-feasible v p q c m, meets-vertex v p q c m)

  vertex-listed : (l : List Constraint) → Encloses D (framed f rules) l → (v : Point) → Feasible S v → Vertex S v → Memᴰ v (corners l)
  vertex-listed [] e v feasible x = absurd (e v (feasible-sized f rules v feasible) (feasible-framed f rules v feasible))
  vertex-listed (k ∷ l) e v feasible x =
      some-listed v k l k
      (some-map (Corner D (framed f rules)) (AtPlace D (sum x.one x.other)) (Meets v) (vertex-meets v feasible x) k l k e.edges
      (boundary_place D (framed f rules) (sum x.one x.other) k l e))

  -- a point is a corner of the ring exactly when it is a feasible vertex of the system
  pub corners-exactly :
      (l : List Constraint) →
      Encloses D (framed f rules) l →
      (v : Point) →
      Memᴰ v (corners l) ↔ Memᴰ v (allowed_vertices S)
  corners-exactly l e v = (
    (λ i. feasible-listed S v (corner-means l e v i).1 (corner-means l e v i).0),
    (λ i. vertex-listed l e v (feasible_of S v i) (vertex_of S v i)),
  )

  some-corner : (l : List Constraint) → Encloses D (framed f rules) l → (v : Point) → Feasible S v → (w : Point) × Memᴰ w (corners l)
  some-corner [] e v feasible = absurd (e v (feasible-sized f rules v feasible) (feasible-framed f rules v feasible))
  some-corner (k ∷ l) e v feasible =
      crossing-listed k l k
      (some-map (Corner D (framed f rules)) (AtPlace D (reversed horizon)) Crosses (away-crosses v feasible) k l k e.edges
      (boundary_place D (framed f rules) (reversed horizon) k l e))

  -- there is no corner exactly where no point is feasible
  pub no_corner_exactly : (l : List Constraint) → Encloses D (framed f rules) l → (corners l ≡ []) ↔ Infeasible S
  no_corner_exactly l e = (
    (λ none v feasible. lost none (some-corner l e v feasible)),
    (λ no-point. no_members (corners l) (λ v i. no-point v (corner-means l e v i).0)),
  )
    where
      lost : corners l ≡ [] → (w : Point) × Memᴰ w (corners l) → ⊥
      lost none (w, i) = Memᴰ.not-nil (subst (Memᴰ w) none i)
