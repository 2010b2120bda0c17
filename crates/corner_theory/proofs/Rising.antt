-- Rising lists of points: `arranged` has the members of the list that it is given, and rises; and two rising lists with the same members
-- are one list. So whatever rises and has the right members is the list that is meant, and it is no longer than any list that has its
-- members.
use mathlib.Core.Path.{◌≡◌, refl, sym, ap, ap₂, subst}
use mathlib.Core.List.Memᴰ
use mathlib.Core.List.{List, [], ◌∷◌, Memᴰ}
use mathlib.Core.Bool.{Bool, true, false}
use mathlib.Core.Logic.{◌⊎◌, inl, inr}
use Prim.Native.Nat.{ℕ, suc, ◌≤◌, zero-le, suc-le-suc}
use lib.Dec.{T}
use lib.ListN.{length}
use Rattle.lp.specs.declared.Point.{Point}
use Rattle.lp.specs.Outcome.{every}
use Rattle.lp.specs.Corners.{before, Rising, placed, arranged}
use Rattle.theory.proofs.Lists.{for-members, every-at, every_of}
use Rattle.corner_theory.proofs.Order.{Proper, before-yes, before-is, before_on, asymmetric, neither-same}

-- every member is a point in lowest terms
abbrev pub AllProper : List Point → Type 0
AllProper l = (v : Point) → Memᴰ v l → Proper v

-- ---- a point put into its place

abbrev placing : Point → Point → List Point → Bool → Bool → List Point
placing v w l p q = elim p [ true ↦ v ∷ w ∷ l | false ↦ elim q [ true ↦ w ∷ placed v l | false ↦ w ∷ l ] ]

pub placed-member : (v : Point) (l : List Point) (y : Point) → Memᴰ y (placed v l) → (y ≡ v) ⊎ Memᴰ y l
placed-member v [] y i = Memᴰ.cases_cons i
placed-member v (w ∷ l) y i = go (before v w) (before w v) i (placed-member v l y)
  where
    go :
        (p q : Bool) →
        Memᴰ y (placing v w l p q) →
        (Memᴰ y (placed v l) → (y ≡ v) ⊎ Memᴰ y l) →
        (y ≡ v) ⊎ Memᴰ y (w ∷ l)
    go true q j f = Memᴰ.cases_cons j
    go false false j f = inr j
    go false true j f = later (Memᴰ.cases_cons j)
      where
        last : (y ≡ v) ⊎ Memᴰ y l → (y ≡ v) ⊎ Memᴰ y (w ∷ l)
        last (inl e) = inl e
        last (inr k) = inr (Memᴰ.tail k)

        later : (y ≡ w) ⊎ Memᴰ y (placed v l) → (y ≡ v) ⊎ Memᴰ y (w ∷ l)
        later (inl e) = inr (Memᴰ.head e)
        later (inr k) = last (f k)

pub placed-old : (v : Point) (l : List Point) (y : Point) → Memᴰ y l → Memᴰ y (placed v l)
placed-old v [] y i = absurd (Memᴰ.not-nil i)
placed-old v (w ∷ l) y i = go (before v w) (before w v) (placed-old v l y)
  where
    go : (p q : Bool) → (Memᴰ y l → Memᴰ y (placed v l)) → Memᴰ y (placing v w l p q)
    go true q f = Memᴰ.tail i
    go false false f = i
    go false true f = later (Memᴰ.cases_cons i)
      where
        later : (y ≡ w) ⊎ Memᴰ y l → Memᴰ y (w ∷ placed v l)
        later (inl e) = Memᴰ.head e
        later (inr k) = Memᴰ.tail (f k)

pub placed-new : (v : Point) (l : List Point) → Proper v → AllProper l → Memᴰ v (placed v l)
placed-new v [] p all = Memᴰ.head refl
placed-new v (w ∷ l) p all =
    go (before v w) (before w v) refl refl (placed-new v l p (λ y i. all y (Memᴰ.tail i)))
  where
    go :
        (b c : Bool) →
        before v w ≡ b →
        before w v ≡ c →
        Memᴰ v (placed v l) →
        Memᴰ v (placing v w l b c)
    go true c e f i = Memᴰ.head refl
    go false true e f i = Memᴰ.tail i
    go false false e f i = Memᴰ.head (neither-same v w p (all w (Memᴰ.head refl)) (λ t. subst T e t) (λ t. subst T f t))

pub placed-rising : (v : Point) (l : List Point) → Proper v → AllProper l → Rising l → Rising (placed v l)
placed-rising v [] p all r = (tt, tt)
placed-rising v (w ∷ l) p all r =
    go (before v w) (before w v) refl refl (placed-rising v l p (λ y i. all y (Memᴰ.tail i)) r.1)
  where
    proper-w : Proper w
    proper-w = all w (Memᴰ.head refl)

    first : T (before v w) → (y : Point) → Memᴰ y (w ∷ l) → T (before v y)
    first t =
        for-members (λ y. T (before v y)) w l t
        (λ y i. before-is v y (before_on v w y p.positive proper-w.positive (all y (Memᴰ.tail i)).positive
        (before-yes v w t) (before-yes w y (every-at (before w) l r.0 y i))))

    second : T (before w v) → (y : Point) → Memᴰ y (placed v l) → T (before w y)
    second t y i = pick (placed-member v l y i)
      where
        pick : (y ≡ v) ⊎ Memᴰ y l → T (before w y)
        pick (inl e) = subst (λ z. T (before w z)) (sym e) t
        pick (inr j) = every-at (before w) l r.0 y j

    go : (b c : Bool) → before v w ≡ b → before w v ≡ c → Rising (placed v l) → Rising (placing v w l b c)
    go true c e f s = (every_of (before v) (w ∷ l) (first (subst T (sym e) tt)), r)
    go false true e f s = (every_of (before w) (placed v l) (second (subst T (sym f) tt)), s)
    go false false e f s = r

-- ---- a list put in order

pub arranged-member : (l : List Point) (y : Point) → Memᴰ y (arranged l) → Memᴰ y l
arranged-member [] y i = i
arranged-member (v ∷ l) y i = go (placed-member v (arranged l) y i) (arranged-member l y)
  where
    go : (y ≡ v) ⊎ Memᴰ y (arranged l) → (Memᴰ y (arranged l) → Memᴰ y l) → Memᴰ y (v ∷ l)
    go (inl e) f = Memᴰ.head e
    go (inr j) f = Memᴰ.tail (f j)

arranged-proper : (l : List Point) → AllProper l → AllProper (arranged l)
arranged-proper l all y i = all y (arranged-member l y i)

pub member-arranged : (l : List Point) → AllProper l → (y : Point) → Memᴰ y l → Memᴰ y (arranged l)
member-arranged [] all y i = i
member-arranged (v ∷ l) all y i = go (Memᴰ.cases_cons i) (member-arranged l rest y)
  where
    rest : AllProper l
    rest z j = all z (Memᴰ.tail j)

    go : (y ≡ v) ⊎ Memᴰ y l → (Memᴰ y l → Memᴰ y (arranged l)) → Memᴰ y (placed v (arranged l))
    go (inl e) f =
        subst (λ z. Memᴰ z (placed v (arranged l))) (sym e)
        (placed-new v (arranged l) (all v (Memᴰ.head refl)) (arranged-proper l rest))
    go (inr j) f = placed-old v (arranged l) y (f j)

pub arranged-rising : (l : List Point) → AllProper l → Rising (arranged l)
arranged-rising [] all = tt
arranged-rising (v ∷ l) all =
    placed-rising v (arranged l) (all v (Memᴰ.head refl)) (arranged-proper l (λ z j. all z (Memᴰ.tail j)))
    (arranged-rising l (λ z j. all z (Memᴰ.tail j)))

-- ---- two rising lists with the same members are one

not-before-self : (v : Point) → T (before v v) → ⊥
not-before-self v t = asymmetric v v (before-yes v v t) (before-yes v v t)

-- the tail's members are members of the other's tail
tail-members :
    (v : Point) (l m : List Point) →
    T (every (before v) l) →
    ((y : Point) → Memᴰ y (v ∷ l) → Memᴰ y (v ∷ m)) →
    (y : Point) →
    Memᴰ y l →
    Memᴰ y m
tail-members v l m t to y i = go (Memᴰ.cases_cons (to y (Memᴰ.tail i)))
  where
    go : (y ≡ v) ⊎ Memᴰ y m → Memᴰ y m
    go (inl e) = absurd (not-before-self v (subst (λ z. T (before v z)) e (every-at (before v) l t y i)))
    go (inr j) = j

heads-same :
    (v w : Point) (l m : List Point) →
    T (every (before v) l) →
    T (every (before w) m) →
    (v ≡ w) ⊎ Memᴰ v m →
    (w ≡ v) ⊎ Memᴰ w l →
    v ≡ w
heads-same v w l m s t (inl e) j = e
heads-same v w l m s t (inr i) (inl e) = sym e
heads-same v w l m s t (inr i) (inr j) =
    absurd (asymmetric v w (before-yes v w (every-at (before v) l s w j)) (before-yes w v (every-at (before w) m t v i)))

pub rising-unique :
    (l m : List Point) →
    Rising l →
    Rising m →
    ((y : Point) → Memᴰ y l → Memᴰ y m) →
    ((y : Point) → Memᴰ y m → Memᴰ y l) →
    l ≡ m
rising-unique [] [] r s to from = refl
rising-unique [] (w ∷ m) r s to from = absurd (Memᴰ.not-nil (from w (Memᴰ.head refl)))
rising-unique (v ∷ l) [] r s to from = absurd (Memᴰ.not-nil (to v (Memᴰ.head refl)))
rising-unique (v ∷ l) (w ∷ m) r s to from =
    ap₂ (λ z k. z ∷ k) e
    (rising-unique l m r.1 s.1
    (tail-members v l m r.0 (λ y i. subst (λ z. Memᴰ y (z ∷ m)) (sym e) (to y i)))
    (tail-members w m l s.0 (λ y i. subst (λ z. Memᴰ y (z ∷ l)) e (from y i))))
  where
    e : v ≡ w
    e =
        heads-same v w l m r.0 s.0 (Memᴰ.cases_cons (to v (Memᴰ.head refl)))
        (Memᴰ.cases_cons (from w (Memᴰ.head refl)))

-- ---- a rising list is no longer than any list that has its members

-- m without one v
pub record Without (v : Point) (m : List Point) : Type 0 where
  pub others : List Point
  pub one_less : length m ≡ suc (length others)
  pub rest : (y : Point) → Memᴰ y m → (y ≡ v) ⊎ Memᴰ y others

without : (v : Point) (m : List Point) → Memᴰ v m → Without v m
without v [] i = absurd (Memᴰ.not-nil i)
without v (w ∷ m) i = go (Memᴰ.cases_cons i) (without v m)
  where
    go : (v ≡ w) ⊎ Memᴰ v m → (Memᴰ v m → Without v m) → Without v (w ∷ m)
    go (inl e) f =
        record {
          others = m;
          one_less = refl;
          rest = for-members (λ y. (y ≡ v) ⊎ Memᴰ y m) w m (inl (sym e)) (λ y j. inr j);
        }
    go (inr j) f =
        record {
          others = w ∷ (f j).others;
          one_less = ap suc (f j).one_less;
          rest = for-members (λ y. (y ≡ v) ⊎ Memᴰ y (w ∷ (f j).others)) w m (inr (Memᴰ.head refl))
              (λ y k. later y ((f j).rest y k));
        }
      where
        later : (y : Point) → (y ≡ v) ⊎ Memᴰ y (f j).others → (y ≡ v) ⊎ Memᴰ y (w ∷ (f j).others)
        later y (inl e) = inl e
        later y (inr k) = inr (Memᴰ.tail k)

pub rising-few : (l m : List Point) → Rising l → ((y : Point) → Memᴰ y l → Memᴰ y m) → length l ≤ length m
rising-few [] m r to = zero-le
rising-few (v ∷ l) m r to =
    subst (λ (n : ℕ). suc (length l) ≤ n) (sym w.one_less) (suc-le-suc (rising-few l w.others r.1 later))
  where
    w : Without v m
    w = without v m (to v (Memᴰ.head refl))

    later : (y : Point) → Memᴰ y l → Memᴰ y w.others
    later y i = go (w.rest y (to y (Memᴰ.tail i)))
      where
        go : (y ≡ v) ⊎ Memᴰ y w.others → Memᴰ y w.others
        go (inl e) = absurd (not-before-self v (subst (λ z. T (before v z)) e (every-at (before v) l r.0 y i)))
        go (inr j) = j
