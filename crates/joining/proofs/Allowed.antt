-- A pair is allowed by the single list exactly if each of the two books allows it: it keeps the greater of two floors exactly if it keeps
-- both, and the rules of both are those of the list.
use mathlib.Core.Path.{◌≡◌, refl, sym, subst}
use mathlib.Core.Bool.{Bool, true, false, not, cond}
use mathlib.Core.List.Memᴰ
use mathlib.Core.List.{List, [], ◌∷◌, ◌++◌, Memᴰ}
use mathlib.Core.Logic.{◌↔◌, ◌⊎◌, inl, inr, ⊎_elim}
use lib.Dec.{T}
use lib.IntN.{ℤ, pos, negsuc, ◌-ℤ◌, ◌*ℤ◌}
use lib.Signed.{le_z, le_z_yes}
use Rattle.ints.specs.Order.{◌≤ᶻ◌, ◌<ᶻ◌}
use Rattle.ints.proofs.Ring.{ring, ◌⊕◌, ◌⊖◌, ◌⊗◌, ⊝◌, con, ◌≐◌}
use Rattle.ints.proofs.Order.{nn_add, nn_mul, pos_nn, sub_nn, lt_le, le_z_no}
use Rattle.lp.specs.declared.Constraint.{Constraint}
use Rattle.lp.specs.declared.Floors.{Floors}
use Rattle.lp.specs.declared.Point.{Point}
use Rattle.lp.specs.Program.{Keeps, Feasible, slack, floor_x, floor_y, system}
use Rattle.joint_terms.specs.Terms.{greater, greater_floors}

-- ---- members of two lists in turn

module _ {A : Type 0} where
  pub mem_left : {x : A} (l m : List A) → Memᴰ x l → Memᴰ x (l ++ m)
  mem_left [] m i = absurd (Memᴰ.not-nil i)
  mem_left {x} (y ∷ l) m i =
      ⊎_elim (λ e. Memᴰ.head e) (λ j. Memᴰ.tail (mem_left l m j))
      (Memᴰ.cases_cons i)

  pub mem_right : {x : A} (l m : List A) → Memᴰ x m → Memᴰ x (l ++ m)
  mem_right [] m i = i
  mem_right (y ∷ l) m i = Memᴰ.tail (mem_right l m i)

  pub mem_either : {x : A} (l m : List A) → Memᴰ x (l ++ m) → Memᴰ x l ⊎ Memᴰ x m
  mem_either [] m i = inr i
  mem_either {x} (y ∷ l) m i =
      ⊎_elim (λ e. inl (Memᴰ.head e))
      (λ j. ⊎_elim (λ k. inl (Memᴰ.tail k)) (λ k. inr k) (mem_either l m j)) (Memᴰ.cases_cons i)

-- ---- floors

-- a bound from below, times d
abbrev Above : ℤ → ℤ → ℤ → Type 0
Above low x d = pos 0 ≤ᶻ x -ℤ low *ℤ d

lower : (y z x d : ℤ) → y ≤ᶻ z → pos 0 ≤ᶻ d → Above z x d → Above y x d
lower y z x d le proper h =
    subst (λ w. pos 0 ≤ᶻ w) (ring 4 (λ y z x d. (x ⊖ z ⊗ d) ⊕ (z ⊖ y) ⊗ d ≐ x ⊖ y ⊗ d) refl y z x d)
    (nn_add h (nn_mul (sub_nn le) proper))

greater-above : (y z x d : ℤ) → pos 0 ≤ᶻ d → Above (greater y z) x d ↔ (Above y x d × Above z x d)
greater-above y z x d proper = go (le_z y z) refl
  where
    go : (b : Bool) → le_z y z ≡ b → Above (cond b z y) x d ↔ (Above y x d × Above z x d)
    go true e = (
      (λ h. (lower y z x d (le_z_yes (subst T (sym e) tt)) proper h, h)),
      (λ h. h.1),
    )
    go false e = (
      (λ h. (h, lower z y x d (lt_le (le_z_no {a = y} {b = z} (subst (λ b. T (not b)) (sym e) tt))) proper h)),
      (λ h. h.0),
    )

keeps-x : (f : Floors) (v : Point) → slack (floor_x f) v ≡ v.x -ℤ f.lx *ℤ v.d
keeps-x f v =
    ring 4 (λ l x y d. ⊝ l ⊗ d ⊖ (con (negsuc 0) ⊗ x ⊕ con (pos 0) ⊗ y) ≐ x ⊖ l ⊗ d) refl f.lx v.x v.y v.d

keeps-y : (f : Floors) (v : Point) → slack (floor_y f) v ≡ v.y -ℤ f.ly *ℤ v.d
keeps-y f v =
    ring 4 (λ l x y d. ⊝ l ⊗ d ⊖ (con (pos 0) ⊗ x ⊕ con (negsuc 0) ⊗ y) ≐ y ⊖ l ⊗ d) refl f.ly v.x v.y v.d

-- ---- both books

module _ (f g : Floors) (R S : List Constraint) (v : Point) where
  floors-x : pos 0 ≤ᶻ v.d → Keeps (floor_x (greater_floors f g)) v ↔ (Keeps (floor_x f) v × Keeps (floor_x g) v)
  floors-x proper =
      let both = greater-above f.lx g.lx v.x v.d proper in (
        (λ h. let k = both.0 (subst (λ z. pos 0 ≤ᶻ z) (keeps-x (greater_floors f g) v) h) in
            (subst (λ z. pos 0 ≤ᶻ z) (sym (keeps-x f v)) k.0, subst (λ z. pos 0 ≤ᶻ z) (sym (keeps-x g v)) k.1)),
        (λ h. subst (λ z. pos 0 ≤ᶻ z) (sym (keeps-x (greater_floors f g) v))
            (both.1 (subst (λ z. pos 0 ≤ᶻ z) (keeps-x f v) h.0, subst (λ z. pos 0 ≤ᶻ z) (keeps-x g v) h.1))),
      )

  floors-y : pos 0 ≤ᶻ v.d → Keeps (floor_y (greater_floors f g)) v ↔ (Keeps (floor_y f) v × Keeps (floor_y g) v)
  floors-y proper =
      let both = greater-above f.ly g.ly v.y v.d proper in (
        (λ h. let k = both.0 (subst (λ z. pos 0 ≤ᶻ z) (keeps-y (greater_floors f g) v) h) in
            (subst (λ z. pos 0 ≤ᶻ z) (sym (keeps-y f v)) k.0, subst (λ z. pos 0 ≤ᶻ z) (sym (keeps-y g v)) k.1)),
        (λ h. subst (λ z. pos 0 ≤ᶻ z) (sym (keeps-y (greater_floors f g) v))
            (both.1 (subst (λ z. pos 0 ≤ᶻ z) (keeps-y f v) h.0, subst (λ z. pos 0 ≤ᶻ z) (keeps-y g v) h.1))),
      )

  abbrev pub single : List Constraint
  single = system (greater_floors f g) (R ++ S)

  -- what keeps a system keeps its floors and its rules
  of_system : (h : Floors) (Q : List Constraint) →
      pos 0 <ᶻ v.d →
      Keeps (floor_x h) v →
      Keeps (floor_y h) v →
      ((r : Constraint) → Memᴰ r Q → Keeps r v) →
      Feasible (system h Q) v
  of_system h Q proper x y rules =
      record {
        proper = proper;
        kept =
            λ r i. ⊎_elim (λ e. subst (λ c. Keeps c v) (sym e) x)
            (λ j. ⊎_elim (λ e. subst (λ c. Keeps c v) (sym e) y) (λ k. rules r k) (Memᴰ.cases_cons j)) (Memᴰ.cases_cons i);
      }

  -- allowed by the single list exactly if by each book
  pub allowed-by-both : Feasible single v ↔ (Feasible (system f R) v × Feasible (system g S) v)
  allowed-by-both = (
    (λ h.
        let proper = pos_nn h.proper in
        let x = (floors-x proper).0 (h.kept (floor_x (greater_floors f g)) (Memᴰ.head refl)) in
        let y = (floors-y proper).0 (h.kept (floor_y (greater_floors f g)) (Memᴰ.tail (Memᴰ.head refl))) in (
          of_system f R h.proper x.0 y.0 (λ r i. h.kept r (Memᴰ.tail (Memᴰ.tail (mem_left R S i)))),
          of_system g S h.proper x.1 y.1 (λ r i. h.kept r (Memᴰ.tail (Memᴰ.tail (mem_right R S i)))),
        )),
    (λ h.
        let site = h.0 in
        let tenant = h.1 in
        let proper = pos_nn site.proper in
        of_system (greater_floors f g) (R ++ S) site.proper
        ((floors-x proper).1 (site.kept (floor_x f) (Memᴰ.head refl), tenant.kept (floor_x g) (Memᴰ.head refl)))
        ((floors-y proper).1
        (site.kept (floor_y f) (Memᴰ.tail (Memᴰ.head refl)), tenant.kept (floor_y g) (Memᴰ.tail (Memᴰ.head refl))))
        (λ r i. ⊎_elim (λ j. site.kept r (Memᴰ.tail (Memᴰ.tail j))) (λ j. tenant.kept r (Memᴰ.tail (Memᴰ.tail j)))
        (mem_either R S i))),
  )
