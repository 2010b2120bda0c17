-- Lists and tests: what the filter, the test of every element and the selection of `lp` mean.
use mathlib.Core.Path.{◌≡◌, refl, sym, ◌∙◌, ap, subst}
use mathlib.Core.List.Memᴰ
use mathlib.Core.List.{List, [], ◌∷◌, ◌++◌, Memᴰ}
use mathlib.Core.Bool.{Bool, true, false, not, ◌&&◌}
use mathlib.Core.Logic.{◌⊎◌, inl, inr}
use Prim.Native.Nat.{ℕ, zero, suc, ◌<◌, zero-le, suc-le-suc}
use native.Mathlib.Nat.{le_of_suc-le-suc, not-suc-le-zero}
use lib.Dec.{T}
use lib.ListN.{length, get_or}
use Rattle.lp.specs.Outcome.{keep, every, pick}

-- ---- tests

pub and_left : (x y : Bool) → T (x && y) → T x
and_left true y t = tt
and_left false y t = absurd t

pub and_right : (x y : Bool) → T (x && y) → T y
and_right true y t = t
and_right false y t = absurd t

pub and_both : (x y : Bool) → T x → T y → T (x && y)
and_both true y s t = t
and_both false y s t = absurd s

pub is_true : (b : Bool) → T b → b ≡ true
is_true true t = refl
is_true false t = absurd t

pub is_false : (b : Bool) → (T b → ⊥) → b ≡ false
is_false true f = absurd (f tt)
is_false false f = refl

pub true_or_not : (b : Bool) → T b ⊎ T (not b)
true_or_not true = inl tt
true_or_not false = inr tt

-- ---- members

module _ {A : Type 0} where
  -- to show something of every member, show it of the head and of the tail's
  pub for-members {ℓ} :
      (Q : A → Type ℓ) (x : A) (l : List A) →
      Q x →
      ((y : A) → Memᴰ y l → Q y) →
      (y : A) →
      Memᴰ y (x ∷ l) →
      Q y
  for-members Q x l q f y i = go (Memᴰ.cases_cons i)
    where
      go : (y ≡ x) ⊎ Memᴰ y l → Q y
      go (inl e) = subst Q (sym e) q
      go (inr j) = f y j

  pub every-at : (test : A → Bool) (l : List A) → T (every test l) → (y : A) → Memᴰ y l → T (test y)
  every-at test [] t = λ y i. absurd (Memᴰ.not-nil i)
  every-at test (x ∷ l) t = go (test x) refl t (every-at test l)
    where
      go :
          (b : Bool) →
          test x ≡ b →
          T (elim b [ true ↦ every test l | false ↦ false ]) →
          (T (every test l) → (y : A) → Memᴰ y l → T (test y)) →
          (y : A) →
          Memᴰ y (x ∷ l) →
          T (test y)
      go true e u f = for-members (λ y. T (test y)) x l (subst T (sym e) tt) (f u)
      go false e u f = absurd u

  pub every_of : (test : A → Bool) (l : List A) → ((y : A) → Memᴰ y l → T (test y)) → T (every test l)
  every_of test [] f = tt
  every_of test (x ∷ l) f = go (test x) (f x (Memᴰ.head refl)) (every_of test l (λ y i. f y (Memᴰ.tail i)))
    where
      go : (b : Bool) → T b → T (every test l) → T (elim b [ true ↦ every test l | false ↦ false ])
      go true s u = u
      go false s u = absurd s

  -- ---- the filter

  pub keep-member : (test : A → Bool) (l : List A) (y : A) → Memᴰ y (keep test l) → Memᴰ y l
  keep-member test [] y i = i
  keep-member test (x ∷ l) y i = go (test x) i (keep-member test l)
    where
      go :
          (b : Bool) →
          Memᴰ y (elim b [ true ↦ x ∷ keep test l | false ↦ keep test l ]) →
          ((z : A) → Memᴰ z (keep test l) → Memᴰ z l) →
          Memᴰ y (x ∷ l)
      go true j f = for-members (λ z. Memᴰ z (x ∷ l)) x (keep test l) (Memᴰ.head refl) (λ z k. Memᴰ.tail (f z k)) y j
      go false j f = Memᴰ.tail (f y j)

  pub keep-test : (test : A → Bool) (l : List A) (y : A) → Memᴰ y (keep test l) → T (test y)
  keep-test test [] y i = absurd (Memᴰ.not-nil i)
  keep-test test (x ∷ l) y i = go (test x) refl i (keep-test test l)
    where
      go :
          (b : Bool) →
          test x ≡ b →
          Memᴰ y (elim b [ true ↦ x ∷ keep test l | false ↦ keep test l ]) →
          ((z : A) → Memᴰ z (keep test l) → T (test z)) →
          T (test y)
      go true e j f = for-members (λ z. T (test z)) x (keep test l) (subst T (sym e) tt) f y j
      go false e j f = f y j

  pub member-keep :
      (test : A → Bool) (l : List A) (y : A) →
      Memᴰ y l →
      T (test y) →
      Memᴰ y (keep test l)
  member-keep test [] y i t = i
  member-keep test (x ∷ l) y i t = go (Memᴰ.cases_cons i) (test x) refl (λ j. member-keep test l y j t)
    where
      go :
          (y ≡ x) ⊎ Memᴰ y l →
          (b : Bool) →
          test x ≡ b →
          (Memᴰ y l → Memᴰ y (keep test l)) →
          Memᴰ y (elim b [ true ↦ x ∷ keep test l | false ↦ keep test l ])
      go (inl p) true e f = Memᴰ.head p
      go (inr j) true e f = Memᴰ.tail (f j)
      go (inl p) false e f = absurd (subst T (ap test p ∙ e) t)
      go (inr j) false e f = f j

  -- ---- the selection. AtMost is what the test decides: reflexive and transitive among the elements, which are all Good

  module _ (better : A → A → Bool) (Good : A → Type 0) (AtMost : A → A → Type 0) (reflexive : (x : A) → Good x → AtMost x x)
      (transitive : (x y z : A) → Good x → Good y → Good z → AtMost x y → AtMost y z → AtMost x z)
      (yes-better : (x y : A) → Good x → Good y → T (better y x) → AtMost x y)
      (not-better : (x y : A) → Good x → Good y → T (not (better y x)) → AtMost y x) where
    pub record Picked (x : A) (l : List A) (p : A) : Type 0 where
      pub member : Memᴰ p (x ∷ l)
      pub first : (y : A) → Memᴰ y (x ∷ l) → AtMost y p

    pub picked :
        (x : A) (l : List A) →
        ((y : A) → Memᴰ y (x ∷ l) → Good y) →
        Picked x l (pick better x l)
    picked x [] good =
        record {
          member = Memᴰ.head refl;
          first = for-members (λ y. AtMost y x) x [] (reflexive x (good x (Memᴰ.head refl)))
              (λ y i. absurd (Memᴰ.not-nil i));
        }
    picked x (y ∷ l) good =
        go (better y x) refl (picked y l (λ z i. good z (Memᴰ.tail i)))
        (picked x l (for-members Good x l good_x (λ z i. good z (Memᴰ.tail (Memᴰ.tail i)))))
      where
        good_x : Good x
        good_x = good x (Memᴰ.head refl)

        good_y : Good y
        good_y = good y (Memᴰ.tail (Memᴰ.head refl))

        good_p : (u : A) (p : A) → Good u → Memᴰ p (u ∷ l) → Good p
        good_p u p gu i = for-members Good u l gu (λ z j. good z (Memᴰ.tail (Memᴰ.tail j))) p i

        go :
            (b : Bool) →
            better y x ≡ b →
            Picked y l (pick better y l) →
            Picked x l (pick better x l) →
            Picked x (y ∷ l) (pick better (elim b [ true ↦ y | false ↦ x ]) l)
        go true e r s =
            record {
              member = Memᴰ.tail r.member;
              first = for-members (λ z. AtMost z (pick better y l)) x (y ∷ l)
                  (transitive x y (pick better y l) good_x good_y (good_p y (pick better y l) good_y r.member)
                  (yes-better x y good_x good_y (subst T (sym e) tt)) (r.first y (Memᴰ.head refl)))
                  r.first;
            }
        go false e r s =
            record {
              member =
                  for-members (λ z. Memᴰ z (x ∷ y ∷ l)) x l (Memᴰ.head refl) (λ z i. Memᴰ.tail (Memᴰ.tail i))
                  (pick better x l) s.member;
              first = for-members (λ z. AtMost z (pick better x l)) x (y ∷ l) (s.first x (Memᴰ.head refl))
                  (for-members (λ z. AtMost z (pick better x l)) y l
                  (transitive y x (pick better x l) good_y good_x (good_p x (pick better x l) good_x s.member)
                  (not-better x y good_x good_y (subst (λ b. T (not b)) (sym e) tt)) (s.first x (Memᴰ.head refl)))
                  (λ z i. s.first z (Memᴰ.tail i)));
            }

  -- ---- an entry by its index

  abbrev pub At : List A → ℕ → A → Type 0
  At [] i x = ⊥
  At (y ∷ l) zero x = x ≡ y
  At (y ∷ l) (suc i) x = At l i x

  pub at-member : (l : List A) (i : ℕ) (x : A) → At l i x → Memᴰ x l
  at-member [] i x h = absurd h
  at-member (y ∷ l) zero x h = Memᴰ.head h
  at-member (y ∷ l) (suc i) x h = Memᴰ.tail (at-member l i x h)

  pub at-get_or : (l : List A) (i : ℕ) (x z : A) → At l i x → get_or l i z ≡ x
  at-get_or [] i x z h = absurd h
  at-get_or (y ∷ l) zero x z h = sym h
  at-get_or (y ∷ l) (suc i) x z h = at-get_or l i x z h

  pub at-below : (l : List A) (i : ℕ) (x : A) → At l i x → i < length l
  at-below [] i x h = absurd h
  at-below (y ∷ l) zero x h = suc-le-suc zero-le
  at-below (y ∷ l) (suc i) x h = suc-le-suc (at-below l i x h)

  pub get_or-member : (l : List A) (i : ℕ) (z : A) → i < length l → Memᴰ (get_or l i z) l
  get_or-member [] i z h = absurd (not-suc-le-zero h)
  get_or-member (y ∷ l) zero z h = Memᴰ.head refl
  get_or-member (y ∷ l) (suc i) z h = Memᴰ.tail (get_or-member l i z (le_of_suc-le-suc h))

  pub at_append : (l r : List A) (i : ℕ) (x : A) → At l i x → At (l ++ r) i x
  at_append [] r i x h = absurd h
  at_append (y ∷ l) r zero x h = h
  at_append (y ∷ l) r (suc i) x h = at_append l r i x h

  pub at_new : (l : List A) (x : A) → At (l ++ (x ∷ [])) (length l) x
  at_new [] x = refl
  at_new (y ∷ l) x = at_new l x

  -- an index has one entry
  pub at-unique : (l : List A) (i : ℕ) (x y : A) → At l i x → At l i y → x ≡ y
  at-unique [] i x y h k = absurd h
  at-unique (z ∷ l) zero x y h k = h ∙ sym k
  at-unique (z ∷ l) (suc i) x y h k = at-unique l i x y h k
