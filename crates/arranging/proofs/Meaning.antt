-- What arranging means: where every point of the keys is a pair in lowest terms with a lawful denominator, the points of the kept indices
-- are the points in order without repeats, `arranged`.
use mathlib.Core.Path.{◌≡◌, refl, sym, ◌∙◌, ap, subst}
use mathlib.Core.List.Memᴰ
use mathlib.Core.List.{List, [], ◌∷◌, map, Memᴰ}
use mathlib.Core.Bool.{Bool, true, false, not}
use mathlib.Core.Logic.{◌⊎◌, inl, inr, ⊎_elim}
use Prim.Native.Nat.{ℕ}
use lib.Dec.{T, T_not}
use lib.IntN.{ℤ}
use Rattle.lp.specs.declared.Point.{Point}
use Rattle.lp.specs.Corners.{before, Rising, arranged}
use Rattle.compare.specs.Comparing.{is_denominator}
use Rattle.compare.proofs.Points.{before-exact}
use Rattle.theory.proofs.Lists.{every_of, true_or_not}
use Rattle.corner_theory.proofs.Order.{Proper, Before, before-yes, before-is, before_on, asymmetric, neither-same}
use Rattle.corner_theory.proofs.Rising.{AllProper, arranged-member, member-arranged, arranged-rising, rising-unique}
use Rattle.sorting.specs.Keys.{point_at, comes_at}
use Rattle.sorting.specs.Sorting.{sort_of}
use Rattle.sorting.proofs.Sorted.{Sorted, sort-keeps, sort-loses-none, sort_sorted}
use Rattle.arranging.specs.Arranging.{kept_after, kept}

-- a pair in lowest terms, whose denominator is below 2^31
pub record Pair (v : Point) : Type 0 where
  pub proper : Proper v
  pub lawful : is_denominator v.d ≡ true

module _ (keys : List ℤ) where
  abbrev at : ℕ → Point
  at i = point_at keys i

  abbrev comes : ℕ → ℕ → Bool
  comes = comes_at keys

  abbrev Good : ℕ → Type 0
  Good i = Pair (at i)

  exact : (i j : ℕ) → Good i → Good j → comes i j ≡ before (at i) (at j)
  exact i j g h = before-exact (at i) (at j) (record { first = g.lawful; second = h.lawful })

  -- ---- the test is an order

  to-before : (i j : ℕ) → Good i → Good j → T (comes i j) → Before (at i) (at j)
  to-before i j g h t = before-yes (at i) (at j) (subst T (exact i j g h) t)

  from-before : (i j : ℕ) → Good i → Good j → Before (at i) (at j) → T (comes i j)
  from-before i j g h t = subst T (sym (exact i j g h)) (before-is (at i) (at j) t)

  refuse : (b : Bool) → (T b → ⊥) → T (not b)
  refuse true f = absurd (f tt)
  refuse false f = tt

  asymmetric-test : (i j : ℕ) → Good i → Good j → T (comes i j) → T (not (comes j i))
  asymmetric-test i j g h t =
      refuse (comes j i) (λ u. asymmetric (at i) (at j) (to-before i j g h t) (to-before j i h g u))

  -- nothing between two, one of which does not come before the other
  no_later : (i j : ℕ) → Good i → Good j → T (not (comes j i)) → Before (at i) (at j) ⊎ (at i ≡ at j)
  no_later i j g h t = go (true_or_not (comes i j))
    where
      go : T (comes i j) ⊎ T (not (comes i j)) → Before (at i) (at j) ⊎ (at i ≡ at j)
      go (inl u) = inl (to-before i j g h u)
      go (inr u) =
          inr (neither-same (at i) (at j) g.proper h.proper
          (λ b. T_not (comes i j) u (subst T (sym (exact i j g h)) b))
          (λ b. T_not (comes j i) t (subst T (sym (exact j i h g)) b)))

  goes_on : (i j k : ℕ) → Good i → Good j → Good k → T (not (comes j i)) → T (not (comes k j)) → T (not (comes k i))
  goes_on i j k g h l s t = refuse (comes k i) (λ u. go (to-before k i l g u) (no_later i j g h s) (no_later j k h l t))
    where
      go : Before (at k) (at i) → Before (at i) (at j) ⊎ (at i ≡ at j) → Before (at j) (at k) ⊎ (at j ≡ at k) → ⊥
      go u (inl a) (inl b) =
          asymmetric (at k) (at j) (before_on (at k) (at i) (at j) l.proper.positive g.proper.positive h.proper.positive u a) b
      go u (inl a) (inr e) = asymmetric (at k) (at i) u (subst (λ z. Before (at i) z) e a)
      go u (inr e) (inl b) = asymmetric (at k) (at i) u (subst (λ z. Before z (at k)) (sym e) b)
      go u (inr e) (inr f) =
          let w = subst (λ z. Before z (at i)) (sym (e ∙ f)) u in asymmetric (at i) (at i) w w

  -- ---- members by their points

  abbrev points : List ℕ → List Point
  points l = map at l

  point-member : (l : List ℕ) (i : ℕ) → Memᴰ i l → Memᴰ (at i) (points l)
  point-member [] i m = absurd (Memᴰ.not-nil m)
  point-member (j ∷ l) i m = go (Memᴰ.cases_cons m) (point-member l i)
    where
      go : (i ≡ j) ⊎ Memᴰ i l → (Memᴰ i l → Memᴰ (at i) (points l)) → Memᴰ (at i) (points (j ∷ l))
      go (inl e) f = Memᴰ.head (ap at e)
      go (inr k) f = Memᴰ.tail (f k)

  member-point : (l : List ℕ) (v : Point) → Memᴰ v (points l) → (i : ℕ) × Memᴰ i l × (v ≡ at i)
  member-point [] v m = absurd (Memᴰ.not-nil m)
  member-point (j ∷ l) v m = go (Memᴰ.cases_cons m) (member-point l v)
    where
      go :
          (v ≡ at j) ⊎ Memᴰ v (points l) →
          (Memᴰ v (points l) → (i : ℕ) × Memᴰ i l × (v ≡ at i)) →
          (i : ℕ) × Memᴰ i (j ∷ l) × (v ≡ at i)
      go (inl e) f = (j, Memᴰ.head refl, e)
      go (inr k) f = let x = f k in (x.0, Memᴰ.tail x.1, x.2)

  -- ---- what is kept

  abbrev AllGood : List ℕ → Type 0
  AllGood l = (i : ℕ) → Memᴰ i l → Good i

  abbrev Order : List ℕ → Type 0
  Order l = Sorted comes Good asymmetric-test goes_on l

  abbrev choice : ℕ → ℕ → List ℕ → Bool → List ℕ
  choice p q l b = elim b [ true ↦ q ∷ kept_after comes q l | false ↦ kept_after comes p l ]

  after-from : (p : ℕ) (l : List ℕ) (x : ℕ) → Memᴰ x (kept_after comes p l) → Memᴰ x l
  after-from p [] x i = i
  after-from p (q ∷ l) x i = go (comes p q) i (after-from q l x) (after-from p l x)
    where
      go :
          (b : Bool) →
          Memᴰ x (choice p q l b) →
          (Memᴰ x (kept_after comes q l) → Memᴰ x l) →
          (Memᴰ x (kept_after comes p l) → Memᴰ x l) →
          Memᴰ x (q ∷ l)
      go true j f g = ⊎_elim (λ e. Memᴰ.head e) (λ k. Memᴰ.tail (f k)) (Memᴰ.cases_cons j)
      go false j f g = Memᴰ.tail (g j)

  -- every point of a sorted list is kept, or is that of the last one kept
  after_into :
      (p : ℕ) (l : List ℕ) →
      Order (p ∷ l) →
      AllGood (p ∷ l) →
      (x : ℕ) →
      Memᴰ x l →
      (at x ≡ at p) ⊎ Memᴰ (at x) (points (kept_after comes p l))
  after_into p [] s g x i = absurd (Memᴰ.not-nil i)
  after_into p (q ∷ l) s g x i =
      go (comes p q) refl (Memᴰ.cases_cons i)
      (λ k. after_into q l s.1 (λ y j. g y (Memᴰ.tail j)) x k)
      (λ k. after_into p l ((λ y j. s.0 y (Memᴰ.tail j)), s.1.1) (skip g) x k)
    where
      skip : AllGood (p ∷ q ∷ l) → AllGood (p ∷ l)
      skip g y j = ⊎_elim (λ e. g y (Memᴰ.head e)) (λ k. g y (Memᴰ.tail (Memᴰ.tail k))) (Memᴰ.cases_cons j)

      good_p : Good p
      good_p = g p (Memᴰ.head refl)

      good_q : Good q
      good_q = g q (Memᴰ.tail (Memᴰ.head refl))

      same : comes p q ≡ false → at q ≡ at p
      same e =
          neither-same (at q) (at p) good_q.proper good_p.proper
          (λ b. T_not (comes q p) (s.0 q (Memᴰ.head refl)) (subst T (sym (exact q p good_q good_p)) b))
          (λ b. subst T (sym (exact p q good_p good_q) ∙ e) b)

      go :
          (b : Bool) →
          comes p q ≡ b →
          (x ≡ q) ⊎ Memᴰ x l →
          (Memᴰ x l → (at x ≡ at q) ⊎ Memᴰ (at x) (points (kept_after comes q l))) →
          (Memᴰ x l → (at x ≡ at p) ⊎ Memᴰ (at x) (points (kept_after comes p l))) →
          (at x ≡ at p) ⊎ Memᴰ (at x) (points (choice p q l b))
      go true e (inl m) f h = inr (Memᴰ.head (ap at m))
      go true e (inr m) f h = inr (⊎_elim (λ z. Memᴰ.head z) (λ k. Memᴰ.tail k) (f m))
      go false e (inl m) f h = inl (ap at m ∙ same e)
      go false e (inr m) f h = h m

  -- the kept points rise
  after-rises :
      (p : ℕ) (l : List ℕ) →
      Order (p ∷ l) →
      AllGood (p ∷ l) →
      ((v : Point) → Memᴰ v (points (kept_after comes p l)) → T (before (at p) v)) × Rising (points (kept_after comes p l))
  after-rises p [] s g = ((λ v i. absurd (Memᴰ.not-nil i)), tt)
  after-rises p (q ∷ l) s g =
      go (comes p q) refl (after-rises q l s.1 (λ y j. g y (Memᴰ.tail j)))
      (after-rises p l ((λ y j. s.0 y (Memᴰ.tail j)), s.1.1) (skip g))
    where
      skip : AllGood (p ∷ q ∷ l) → AllGood (p ∷ l)
      skip g y j = ⊎_elim (λ e. g y (Memᴰ.head e)) (λ k. g y (Memᴰ.tail (Memᴰ.tail k))) (Memᴰ.cases_cons j)

      good_p : Good p
      good_p = g p (Memᴰ.head refl)

      good_q : Good q
      good_q = g q (Memᴰ.tail (Memᴰ.head refl))

      positive : (v : Point) → Memᴰ v (points (kept_after comes q l)) → Proper v
      positive v i =
          let x = member-point (kept_after comes q l) v i in
          subst Proper (sym x.2) (g x.0 (Memᴰ.tail (Memᴰ.tail (after-from q l x.0 x.1)))).proper

      go :
          (b : Bool) →
          comes p q ≡ b →
          ((v : Point) → Memᴰ v (points (kept_after comes q l)) → T (before (at q) v)) × Rising (points (kept_after comes q l)) →
          ((v : Point) → Memᴰ v (points (kept_after comes p l)) → T (before (at p) v)) × Rising (points (kept_after comes p l)) →
          ((v : Point) → Memᴰ v (points (choice p q l b)) → T (before (at p) v)) × Rising (points (choice p q l b))
      go true e f h = (first, (every_of (before (at q)) (points (kept_after comes q l)) f.0, f.1))
        where
          here : Before (at p) (at q)
          here = to-before p q good_p good_q (subst T (sym e) tt)

          first : (v : Point) → Memᴰ v (at q ∷ points (kept_after comes q l)) → T (before (at p) v)
          first v i =
              ⊎_elim (λ z. subst (λ w. T (before (at p) w)) (sym z) (before-is (at p) (at q) here))
              (λ k. before-is (at p) v (before_on (at p) (at q) v good_p.proper.positive good_q.proper.positive
              (positive v k).positive here (before-yes (at q) v (f.0 v k))))
              (Memᴰ.cases_cons i)
      go false e f h = h

  kept-rises : (l : List ℕ) → Order l → AllGood l → Rising (points (kept comes l))
  kept-rises [] s g = tt
  kept-rises (p ∷ l) s g =
      let r = after-rises p l s g in (every_of (before (at p)) (points (kept_after comes p l)) r.0, r.1)

  kept_from : (l : List ℕ) (x : ℕ) → Memᴰ x (kept comes l) → Memᴰ x l
  kept_from [] x i = i
  kept_from (p ∷ l) x i =
      ⊎_elim (λ e. Memᴰ.head e) (λ k. Memᴰ.tail (after-from p l x k)) (Memᴰ.cases_cons i)

  kept_into : (l : List ℕ) → Order l → AllGood l → (x : ℕ) → Memᴰ x l → Memᴰ (at x) (points (kept comes l))
  kept_into [] s g x i = absurd (Memᴰ.not-nil i)
  kept_into (p ∷ l) s g x i =
      ⊎_elim (λ e. Memᴰ.head (ap at e))
      (λ k. ⊎_elim (λ z. Memᴰ.head z) (λ m. Memᴰ.tail m) (after_into p l s g x k))
      (Memᴰ.cases_cons i)

  -- ---- the theorem

  pub kept-arranged : (l : List ℕ) → ((i : ℕ) → Memᴰ i l → Pair (point_at keys i)) →
      map (point_at keys) (kept (comes_at keys) (sort_of (comes_at keys) l)) ≡ arranged (map (point_at keys) l)
  kept-arranged l good =
      rising-unique (points (kept comes s)) (arranged (points l)) (kept-rises s order good_s) (arranged-rising (points l) proper)
      (λ v i. member-arranged (points l) proper v (to v i))
      (λ v i. from v (arranged-member (points l) v i))
    where
      s : List ℕ
      s = sort_of comes l

      good_s : AllGood s
      good_s i m = good i (sort-keeps comes l i m)

      order : Order s
      order = sort_sorted comes Good asymmetric-test goes_on l good

      proper : AllProper (points l)
      proper v i = let x = member-point l v i in subst Proper (sym x.2) (good x.0 x.1).proper

      to : (v : Point) → Memᴰ v (points (kept comes s)) → Memᴰ v (points l)
      to v i =
          let x = member-point (kept comes s) v i in
          subst (λ z. Memᴰ z (points l)) (sym x.2)
          (point-member l x.0 (sort-keeps comes l x.0 (kept_from s x.0 x.1)))

      from : (v : Point) → Memᴰ v (points l) → Memᴰ v (points (kept comes s))
      from v i =
          let x = member-point l v i in
          subst (λ z. Memᴰ z (points (kept comes s))) (sym x.2)
          (kept_into s order good_s x.0 (sort-loses-none comes l x.0 x.1))
