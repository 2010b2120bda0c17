-- What stands in a list of numbers.
use Prim.Native.Nat.{ℕ, zero, suc, ◌<◌}
use mathlib.Core.Path.{◌≡◌, refl, sym, ap, ◌∙◌, subst}
use mathlib.Core.Bool.{Bool, true, false, ◌||◌}
use mathlib.Core.List.{List, [], ◌∷◌, ◌++◌, map}
use native.Mathlib.Omega.{arith}
use native.Mathlib.Decide.{dec_lt}
use borrow.Author.Tests.{eq-eqb, ne_eqb, eqb-true}
use lib.ListN.{length, get_or, length-append, get_or-append}
use lib.Seq.{get_or_at}
use lib.Dec.{eqb}
use Rattle.book.specs.Reading.{memb}

pub or_false : (b : Bool) → b || false ≡ b
or_false true = refl
or_false false = refl

pub or_true : (b : Bool) → b || true ≡ true
or_true true = refl
or_true false = refl

or_assoc : (a b c : Bool) → (a || b) || c ≡ a || (b || c)
or_assoc true b c = refl
or_assoc false b c = refl

pub memb_snoc : (i j : ℕ) (l : List ℕ) → memb i (l ++ (j ∷ [])) ≡ memb i l || eqb i j
unfolding memb
memb_snoc i j [] = or_false (eqb i j)
memb_snoc i j (x ∷ l) = ap (λ b. eqb i x || b) (memb_snoc i j l) ∙ sym (or_assoc (eqb i x) (memb i l) (eqb i j))

pub map_snoc : {X : Type 0} (f : ℕ → X) (l : List ℕ) (i : ℕ) → map f (l ++ (i ∷ [])) ≡ map f l ++ (f i ∷ [])
map_snoc f [] i = refl
map_snoc f (x ∷ l) i = ap (λ r. f x ∷ r) (map_snoc f l i)

-- f's value at each place of a list stands in the list of f's values
pub memb-at : (f : ℕ → ℕ) (l : List ℕ) (k : ℕ) → k < length l → memb (f (get_or l k 0)) (map f l) ≡ true
unfolding memb
memb-at f [] k h = absurd (let z : ⊥ = omega arith in z)
memb-at f (x ∷ l) zero h = rw (eq-eqb (f x) (f x) refl)
memb-at f (x ∷ l) (suc k) h = rw (memb-at f l k (omega arith)) (or_true (eqb (f (get_or l k 0)) (f x)))

-- and nothing else does
pub absent : (f : ℕ → ℕ) (l : List ℕ) (x : ℕ) → ((k : ℕ) → k < length l → f (get_or l k 0) ≡ x → ⊥) → memb x (map f l) ≡ false
unfolding memb
absent f [] x h = refl
absent f (y ∷ l) x h =
    rw (ne_eqb x (f y) (λ e. h 0 (omega arith) (sym e))) (absent f l x (λ k g. h (suc k) (omega arith)))

pub not_there : (f : ℕ → ℕ) (l : List ℕ) (x : ℕ) → memb x (map f l) ≡ false → (k : ℕ) → k < length l → f (get_or l k 0) ≡ x → ⊥
not_there f l x n k h e =
    let there : memb x (map f l) ≡ true = subst (λ (y : ℕ). memb y (map f l) ≡ true) e (memb-at f l k h) in
    let y : ◌≡◌ {A = ℕ} 0 1 = cc in
    omega arith

pub map_same : (l : List ℕ) → map (λ (i : ℕ). i) l ≡ l
map_same [] = refl
map_same (x ∷ l) = ap (λ r. x ∷ r) (map_same l)

-- where something stands
pub record Place (f : ℕ → ℕ) (l : List ℕ) (x : ℕ) : Type 0 where
  pub place : ℕ
  pub within : place < length l
  pub value : f (get_or l place 0) ≡ x

pub place_of : (f : ℕ → ℕ) (l : List ℕ) (x : ℕ) → memb x (map f l) ≡ true → Place f l x
unfolding memb
place_of f [] x e = absurd (let y : ◌≡◌ {A = ℕ} 0 1 = cc in let z : ⊥ = omega arith in z)
place_of f (y ∷ l) x e = go (eqb x (f y)) refl e (place_of f l x)
  where
    go : (b : Bool) → eqb x (f y) ≡ b → b || memb x (map f l) ≡ true → (memb x (map f l) ≡ true → Place f l x) → Place f (y ∷ l) x
    go true p e ih = record { place = 0; within = omega arith; value = sym (eqb-true x (f y) p) }
    go false p e ih = let r = ih e in record { place = suc r.place; within = omega (arith, r.within); value = r.value }

-- the value of what stands in a list stands in the list of the values
pub memb-map : (f : ℕ → ℕ) (l : List ℕ) (i : ℕ) → memb i l ≡ true → memb (f i) (map f l) ≡ true
memb-map f l i m =
    let p = place_of (λ (j : ℕ). j) l i (ap (memb i) (map_same l) ∙ m) in
    subst (λ (x : ℕ). memb (f x) (map f l) ≡ true) p.value (memb-at f l p.place p.within)

-- a list whose values under f differ, and one more that differs from all of them
pub apart_snoc : (f : ℕ → ℕ) (l : List ℕ) (i : ℕ) →
    ((j : ℕ) → j < length l → f (get_or l j 0) ≡ f i → ⊥) →
    ((k : ℕ) → k < length l → (j : ℕ) → j < k → f (get_or l j 0) ≡ f (get_or l k 0) → ⊥) →
    (k : ℕ) →
    k < length (l ++ (i ∷ [])) →
    (j : ℕ) →
    j < k →
    f (get_or (l ++ (i ∷ [])) j 0) ≡ f (get_or (l ++ (i ∷ [])) k 0) →
    ⊥
apart_snoc f l i new old k h j g p = go (dec_lt k (length l))
  where
    earlier : j < length l
    earlier = omega (arith, length-append l (i ∷ []))

    before : f (get_or (l ++ (i ∷ [])) j 0) ≡ f (get_or l j 0)
    before = ap f (get_or-append l (i ∷ []) 0 j earlier)

    go : Dec (k < length l) → ⊥
    go (yes q) = old k q j g (sym before ∙ p ∙ ap f (get_or-append l (i ∷ []) 0 k q))
    go (no n) =
        let end : length l ≡ k = omega (arith, length-append l (i ∷ [])) in
        new j earlier (sym before ∙ p ∙ ap f (get_or_at l i [] 0 k end))
