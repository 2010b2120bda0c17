-- Ways along a list: from p over the members of l to a last element e, with something said of each two neighbours. A ring k ∷ l is a way
-- from k over l back to k.
use mathlib.Core.List.Memᴰ
use mathlib.Core.List.{List, [], ◌∷◌, ◌++◌, append-nil, Memᴰ}
use mathlib.Core.Logic.{◌⊎◌, inl, inr}
use mathlib.Core.Path.{◌≡◌, subst, sym}

module _ {A : Type 0} where
  -- each two neighbours
  abbrev pub Way : (A → A → Type 0) → A → List A → A → Type 0
  Way R p [] e = R p e
  Way R p (q ∷ l) e = R p q × Way R q l e

  -- some two neighbours
  abbrev pub Some : (A → A → Type 0) → A → List A → A → Type 0
  Some R p [] e = R p e
  Some R p (q ∷ l) e = R p q ⊎ Some R q l e

  -- the last two
  abbrev pub Last : (A → A → Type 0) → A → List A → A → Type 0
  Last R p [] e = R p e
  Last R p (q ∷ l) e = Last R q l e

  -- each member
  abbrev pub All : (A → Type 0) → List A → Type 0
  All P [] = Unit {0}
  All P (q ∷ l) = P q × All P l

  -- each member with each later one
  abbrev pub Pairwise : (A → A → Type 0) → List A → Type 0
  Pairwise R [] = Unit {0}
  Pairwise R (p ∷ l) = All (R p) l × Pairwise R l

  -- ---- ways

  module _ (R : A → A → Type 0) where
    pub way_on : (p : A) (l : List A) (k e : A) → Way R p l k → R k e → Way R p (l ++ (k ∷ [])) e
    way_on p [] k e w r = (w, r)
    way_on p (q ∷ l) k e w r = (w.0, way_on q l k e w.1 r)

    pub last_on : (p : A) (l : List A) (k e : A) → R k e → Last R p (l ++ (k ∷ [])) e
    last_on p [] k e r = r
    last_on p (q ∷ l) k e r = last_on q l k e r

  pub way_map :
      (R R' : A → A → Type 0) →
      ((x y : A) → R x y → R' x y) →
      (p : A) (l : List A) (e : A) →
      Way R p l e →
      Way R' p l e
  way_map R R' f p [] e w = f p e w
  way_map R R' f p (q ∷ l) e w = (f p q w.0, way_map R R' f q l e w.1)

  pub way_both : (R R' : A → A → Type 0) (p : A) (l : List A) (e : A) → Way R p l e → Way R' p l e → Way (λ x y. R x y × R' x y) p l e
  way_both R R' p [] e w w' = (w, w')
  way_both R R' p (q ∷ l) e w w' = ((w.0, w'.0), way_both R R' q l e w.1 w'.1)

  -- what holds of some two neighbours, with what holds of each two
  pub some_way :
      (R Q : A → A → Type 0) (p : A) (l : List A) (e : A) →
      Way R p l e →
      Some Q p l e →
      (x : A) × (y : A) × R x y × Q x y
  some_way R Q p [] e w s = (p, e, w, s)
  some_way R Q p (q ∷ l) e w (inl s) = (p, q, w.0, s)
  some_way R Q p (q ∷ l) e w (inr s) = some_way R Q q l e w.1 s

  pub some-map :
      (R Q Q' : A → A → Type 0) →
      ((x y : A) → R x y → Q x y → Q' x y) →
      (p : A) (l : List A) (e : A) →
      Way R p l e →
      Some Q p l e →
      Some Q' p l e
  some-map R Q Q' f p [] e w s = f p e w s
  some-map R Q Q' f p (q ∷ l) e w (inl s) = inl (f p q w.0 s)
  some-map R Q Q' f p (q ∷ l) e w (inr s) = inr (some-map R Q Q' f q l e w.1 s)

  -- what each two neighbours say of the second
  pub way_all :
      (R : A → A → Type 0) (P : A → Type 0) →
      ((x y : A) → R x y → P y) →
      (p : A) (l : List A) (e : A) →
      Way R p l e →
      All P l
  way_all R P f p [] e w = tt
  way_all R P f p (q ∷ l) e w = (f p q w.0, way_all R P f q l e w.1)

  -- ---- members

  pub all_map : (P Q : A → Type 0) → ((x : A) → P x → Q x) → (l : List A) → All P l → All Q l
  all_map P Q f [] a = tt
  all_map P Q f (q ∷ l) a = (f q a.0, all_map P Q f l a.1)

  pub all-on : (P : A → Type 0) (l : List A) (k : A) → All P l → P k → All P (l ++ (k ∷ []))
  all-on P [] k a p = (p, tt)
  all-on P (q ∷ l) k a p = (a.0, all-on P l k a.1 p)

  pub all-at : (P : A → Type 0) (l : List A) → All P l → (x : A) → Memᴰ x l → P x
  all-at P [] a x i = absurd (Memᴰ.not-nil i)
  all-at P (q ∷ l) a x i = go (Memᴰ.cases_cons i) (all-at P l a.1 x)
    where
      go : (x ≡ q) ⊎ Memᴰ x l → (Memᴰ x l → P x) → P x
      go (inl e) f = subst P (sym e) a.0
      go (inr j) f = f j

  pub pairwise_on :
      (R : A → A → Type 0) (l : List A) (k : A) →
      Pairwise R l →
      All (λ x. R x k) l →
      Pairwise R (l ++ (k ∷ []))
  pairwise_on R [] k d a = (tt, tt)
  pairwise_on R (q ∷ l) k d a = (all-on (R q) l k d.0 a.0, pairwise_on R l k d.1 a.1)

  -- ---- rings

  -- a ring turned by one: it begins with the second edge
  pub way_turned : (R : A → A → Type 0) (k e : A) (l : List A) → Way R k (e ∷ l) k → Way R e (l ++ (k ∷ [])) e
  way_turned R k e l w = way_on R e l k e w.1 w.0

  pub pairwise_turned :
      (R : A → A → Type 0) →
      ((x y : A) → R x y → R y x) →
      (k e : A) (l : List A) →
      Pairwise R (k ∷ e ∷ l) →
      Pairwise R (e ∷ l ++ (k ∷ []))
  pairwise_turned R symmetric k e l d = pairwise_on R (e ∷ l) k d.1 (all_map (R k) (λ x. R x k) (symmetric k) (e ∷ l) d.0)

  -- a ring turned by any number of edges: k ∷ l before e ∷ m, or after it
  pub way_rotated : (R : A → A → Type 0) (k : A) (l : List A) (e : A) (m : List A) → Way R k (l ++ (e ∷ m)) k → Way R e (m ++ (k ∷ l)) e
  way_rotated R k l e m w = join e m (split k l w).1 (split k l w).0
    where
      split : (p : A) (l : List A) → Way R p (l ++ (e ∷ m)) k → Way R p l e × Way R e m k
      split p [] w = w
      split p (q ∷ l) w = ((w.0, (split q l w.1).0), (split q l w.1).1)

      join : (p : A) (n : List A) → Way R p n k → Way R k l e → Way R p (n ++ (k ∷ l)) e
      join p [] w v = (w, v)
      join p (q ∷ n) w v = (w.0, join q n w.1 v)

  all_split : (P : A → Type 0) (l m : List A) → All P (l ++ m) → All P l × All P m
  all_split P [] m a = (tt, a)
  all_split P (q ∷ l) m a = ((a.0, (all_split P l m a.1).0), (all_split P l m a.1).1)

  all_join : (P : A → Type 0) (l m : List A) → All P l → All P m → All P (l ++ m)
  all_join P [] m a b = b
  all_join P (q ∷ l) m a b = (a.0, all_join P l m a.1 b)

  pub pairwise_rotated :
      (R : A → A → Type 0) →
      ((x y : A) → R x y → R y x) →
      (l m : List A) →
      Pairwise R (l ++ m) →
      Pairwise R (m ++ l)
  pairwise_rotated R symmetric [] m d = subst (Pairwise R) (sym (append-nil m)) d
  pairwise_rotated R symmetric (q ∷ l) m d =
      insert-middle m l (pairwise_rotated R symmetric l m d.1)
      (all_map (R q) (λ x. R x q) (symmetric q) m (all_split (R q) l m d.0).1) (all_split (R q) l m d.0).0
    where
      insert-middle : (n r : List A) → Pairwise R (n ++ r) → All (λ x. R x q) n → All (R q) r → Pairwise R (n ++ (q ∷ r))
      insert-middle [] r d a b = (b, d)
      insert-middle (x ∷ n) r d a b = (
        all_join (R x) n (q ∷ r) (all_split (R x) n r d.0).0 (a.0, (all_split (R x) n r d.0).1),
        insert-middle n r d.1 a.1 b,
      )
