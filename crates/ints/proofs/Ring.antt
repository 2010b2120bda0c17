-- A ring solver by reflection. An identity between polynomials over ℤ is proved by its two normal forms being the same: `ring n f refl x₁
-- .. xₙ`, where f takes n polynomial variables to the two sides. A normal form is a list of terms, each a coefficient other than 0 and a
-- sorted list of variables, in the order of those lists. `ring-sound` is the one theorem behind it.
use mathlib.Core.Path.{◌≡◌, refl, sym, ◌∙◌, ap, ap₂}
use mathlib.Core.List.{List, [], ◌∷◌}
use mathlib.Core.Bool.{Bool, true, false}
use Prim.Native.Nat.{ℕ, zero, suc}
use lib.Dec.{T, eqb, ltb, eqb→eq}
use lib.IntN.{ℤ, pos, negsuc, neg_ℤ, ◌+ℤ◌, ◌-ℤ◌, ◌*ℤ◌, +ℤ_assoc, +ℤ_comm, +ℤ_idl, +ℤ_idr, zero-*ℤ, *ℤ-zero, *ℤ_comm, neg_ℤ-+ℤ}
use Rattle.ints.proofs.Laws.{mul_distrib_right, mul_distrib_left, neg_mul, mul_assoc, one-mul}

infixl 6 ◌⊕◌ ◌⊖◌
infixl 7 ◌⊗◌
infix 8 ⊝◌
pub data Poly : Type 0 where
  var : ℕ → Poly
  con : ℤ → Poly
  ◌⊕◌ : Poly → Poly → Poly
  ◌⊖◌ : Poly → Poly → Poly
  ◌⊗◌ : Poly → Poly → Poly
  ⊝◌ : Poly → Poly

abbrev pub at : List ℤ → ℕ → ℤ
at [] i = pos zero
at (x ∷ ρ) zero = x
at (x ∷ ρ) (suc i) = at ρ i

abbrev pub eval : List ℤ → Poly → ℤ
eval ρ (var i) = at ρ i
eval ρ (con z) = z
eval ρ (p ⊕ q) = eval ρ p +ℤ eval ρ q
eval ρ (p ⊖ q) = eval ρ p -ℤ eval ρ q
eval ρ (p ⊗ q) = eval ρ p *ℤ eval ρ q
eval ρ (⊝ p) = neg_ℤ (eval ρ p)

-- ---- normal forms

abbrev pub Mono : Type 0
Mono = List ℕ

pub record Term : Type 0 where
  pub coefficient : ℤ
  pub monomial : Mono

abbrev pub term : ℤ → Mono → Term
term c m = record { coefficient = c; monomial = m }

abbrev pub insert : ℕ → Mono → Mono
insert i [] = i ∷ []
insert i (j ∷ m) = elim (ltb j i) [ true ↦ j ∷ insert i m | false ↦ i ∷ j ∷ m ]

abbrev pub times : Mono → Mono → Mono
times [] m = m
times (i ∷ l) m = insert i (times l m)

pub data Order : Type 0 where
  before same after : Order

-- shorter lists first, then by the first variable in which they differ
abbrev pub compare : Mono → Mono → Order
compare [] [] = same
compare [] (j ∷ m) = before
compare (i ∷ l) [] = after
compare (i ∷ l) (j ∷ m) = elim (eqb i j) [ true ↦ compare l m | false ↦ elim (ltb i j) [ true ↦ before | false ↦ after ] ]

-- a term in front, unless its coefficient is 0
abbrev pub push : ℤ → Mono → List Term → List Term
push (pos zero) m n = n
push (pos (suc k)) m n = term (pos (suc k)) m ∷ n
push (negsuc k) m n = term (negsuc k) m ∷ n

abbrev pub add_term : ℤ → Mono → List Term → List Term
add_term c m [] = push c m []
add_term c m (t ∷ n) =
    elim (compare m t.monomial) [
      | before ↦ push c m (t ∷ n)
      | same ↦ push (c +ℤ t.coefficient) m n
      | after ↦ t ∷ add_term c m n
    ]

abbrev pub add : List Term → List Term → List Term
add [] n = n
add (t ∷ l) n = add_term t.coefficient t.monomial (add l n)

abbrev pub scale : ℤ → Mono → List Term → List Term
scale c m [] = []
scale c m (t ∷ n) = add_term (c *ℤ t.coefficient) (times m t.monomial) (scale c m n)

abbrev pub mul : List Term → List Term → List Term
mul [] n = []
mul (t ∷ l) n = add (scale t.coefficient t.monomial n) (mul l n)

abbrev pub minus : List Term → List Term
minus [] = []
minus (t ∷ n) = term (neg_ℤ t.coefficient) t.monomial ∷ minus n

abbrev pub normal : Poly → List Term
normal (var i) = term (pos 1) (i ∷ []) ∷ []
normal (con z) = push z [] []
normal (p ⊕ q) = add (normal p) (normal q)
normal (p ⊖ q) = add (normal p) (minus (normal q))
normal (p ⊗ q) = mul (normal p) (normal q)
normal (⊝ p) = minus (normal p)

-- ---- their values, and that each operation means what it should

module _ (ρ : List ℤ) where
  abbrev mono_value : Mono → ℤ
  mono_value [] = pos 1
  mono_value (i ∷ m) = at ρ i *ℤ mono_value m

  abbrev value : List Term → ℤ
  value [] = pos zero
  value (t ∷ n) = t.coefficient *ℤ mono_value t.monomial +ℤ value n

  insert-sound : (i : ℕ) (m : Mono) → mono_value (insert i m) ≡ at ρ i *ℤ mono_value m
  insert-sound i [] = refl
  insert-sound i (j ∷ m) = go (ltb j i) (insert-sound i m)
    where
      go :
          (b : Bool) →
          mono_value (insert i m) ≡ at ρ i *ℤ mono_value m →
          mono_value (elim b [ true ↦ j ∷ insert i m | false ↦ i ∷ j ∷ m ]) ≡ at ρ i *ℤ (at ρ j *ℤ mono_value m)
      go true e =
          ap (λ t. at ρ j *ℤ t) e
          ∙ sym (mul_assoc (at ρ j) (at ρ i) (mono_value m))
          ∙ ap (λ t. t *ℤ mono_value m) (*ℤ_comm (at ρ j) (at ρ i))
          ∙ mul_assoc (at ρ i) (at ρ j) (mono_value m)
      go false e = refl

  times-sound : (l m : Mono) → mono_value (times l m) ≡ mono_value l *ℤ mono_value m
  times-sound [] m = sym (one-mul (mono_value m))
  times-sound (i ∷ l) m =
      insert-sound i (times l m)
      ∙ ap (λ t. at ρ i *ℤ t) (times-sound l m)
      ∙ sym (mul_assoc (at ρ i) (mono_value l) (mono_value m))

  push-sound : (c : ℤ) (m : Mono) (n : List Term) → value (push c m n) ≡ c *ℤ mono_value m +ℤ value n
  push-sound (pos zero) m n = sym (ap (λ t. t +ℤ value n) (zero-*ℤ (mono_value m)) ∙ +ℤ_idl (value n))
  push-sound (pos (suc k)) m n = refl
  push-sound (negsuc k) m n = refl

  abbrev Same : Mono → Mono → Order → Type 0
  Same l m before = Unit {0}
  Same l m same = l ≡ m
  Same l m after = Unit {0}

  compare_same : (l m : Mono) → Same l m (compare l m)
  compare_same [] [] = refl
  compare_same [] (j ∷ m) = tt
  compare_same (i ∷ l) [] = tt
  compare_same (i ∷ l) (j ∷ m) = go (eqb i j) (eqb→eq i j) (compare l m) (compare_same l m)
    where
      less : (b : Bool) → Same (i ∷ l) (j ∷ m) (elim b [ true ↦ before | false ↦ after ])
      less true = tt
      less false = tt

      under : (o : Order) → i ≡ j → Same l m o → Same (i ∷ l) (j ∷ m) o
      under before e s = tt
      under same e s = ap₂ (λ x y. x ∷ y) e s
      under after e s = tt

      go :
          (b : Bool) →
          (T b → i ≡ j) →
          (o : Order) →
          Same l m o →
          Same (i ∷ l) (j ∷ m) (elim b [ true ↦ o | false ↦ elim (ltb i j) [ true ↦ before | false ↦ after ] ])
      go true e o s = under o (e tt) s
      go false e o s = less (ltb i j)

  add_term-sound : (c : ℤ) (m : Mono) (n : List Term) → value (add_term c m n) ≡ c *ℤ mono_value m +ℤ value n
  add_term-sound c m [] = push-sound c m []
  add_term-sound c m (t ∷ n) = go (compare m t.monomial) (compare_same m t.monomial) (add_term-sound c m n)
    where
      go :
          (o : Order) →
          Same m t.monomial o →
          value (add_term c m n) ≡ c *ℤ mono_value m +ℤ value n →
          value (elim o [ before ↦ push c m (t ∷ n) | same ↦ push (c +ℤ t.coefficient) m n | after ↦ t ∷ add_term c m n ])
          ≡ c *ℤ mono_value m +ℤ (t.coefficient *ℤ mono_value t.monomial +ℤ value n)
      go before s e = push-sound c m (t ∷ n)
      go same s e =
          push-sound (c +ℤ t.coefficient) m n
          ∙ ap (λ z. z +ℤ value n) (mul_distrib_right c t.coefficient (mono_value m))
          ∙ +ℤ_assoc (c *ℤ mono_value m) (t.coefficient *ℤ mono_value m) (value n)
          ∙ ap (λ (l : Mono). c *ℤ mono_value m +ℤ (t.coefficient *ℤ mono_value l +ℤ value n)) s
      go after s e =
          ap (λ z. t.coefficient *ℤ mono_value t.monomial +ℤ z) e
          ∙ sym (+ℤ_assoc (t.coefficient *ℤ mono_value t.monomial) (c *ℤ mono_value m) (value n))
          ∙ ap (λ z. z +ℤ value n) (+ℤ_comm (t.coefficient *ℤ mono_value t.monomial) (c *ℤ mono_value m))
          ∙ +ℤ_assoc (c *ℤ mono_value m) (t.coefficient *ℤ mono_value t.monomial) (value n)

  add-sound : (l n : List Term) → value (add l n) ≡ value l +ℤ value n
  add-sound [] n = sym (+ℤ_idl (value n))
  add-sound (t ∷ l) n =
      add_term-sound t.coefficient t.monomial (add l n)
      ∙ ap (λ z. t.coefficient *ℤ mono_value t.monomial +ℤ z) (add-sound l n)
      ∙ sym (+ℤ_assoc (t.coefficient *ℤ mono_value t.monomial) (value l) (value n))

  scale-sound : (c : ℤ) (m : Mono) (n : List Term) → value (scale c m n) ≡ c *ℤ mono_value m *ℤ value n
  scale-sound c m [] = sym (*ℤ-zero (c *ℤ mono_value m))
  scale-sound c m (t ∷ n) =
      add_term-sound (c *ℤ t.coefficient) (times m t.monomial) (scale c m n)
      ∙ ap₂ (λ y z. y +ℤ z) (ap (λ z. c *ℤ t.coefficient *ℤ z) (times-sound m t.monomial)
      ∙ swap c t.coefficient (mono_value m) (mono_value t.monomial)) (scale-sound c m n)
      ∙ sym (mul_distrib_left (c *ℤ mono_value m) (t.coefficient *ℤ mono_value t.monomial) (value n))
    where
      swap : (a b x y : ℤ) → a *ℤ b *ℤ (x *ℤ y) ≡ a *ℤ x *ℤ (b *ℤ y)
      swap a b x y =
          mul_assoc a b (x *ℤ y)
          ∙ ap (λ z. a *ℤ z) (sym (mul_assoc b x y) ∙ ap (λ z. z *ℤ y) (*ℤ_comm b x) ∙ mul_assoc x b y)
          ∙ sym (mul_assoc a x (b *ℤ y))

  mul-sound : (l n : List Term) → value (mul l n) ≡ value l *ℤ value n
  mul-sound [] n = sym (zero-*ℤ (value n))
  mul-sound (t ∷ l) n =
      add-sound (scale t.coefficient t.monomial n) (mul l n)
      ∙ ap₂ (λ y z. y +ℤ z) (scale-sound t.coefficient t.monomial n) (mul-sound l n)
      ∙ sym (mul_distrib_right (t.coefficient *ℤ mono_value t.monomial) (value l) (value n))

  minus-sound : (n : List Term) → value (minus n) ≡ neg_ℤ (value n)
  minus-sound [] = refl
  minus-sound (t ∷ n) =
      ap₂ (λ y z. y +ℤ z) (neg_mul t.coefficient (mono_value t.monomial)) (minus-sound n)
      ∙ sym (neg_ℤ-+ℤ (t.coefficient *ℤ mono_value t.monomial) (value n))

  normal-sound : (p : Poly) → value (normal p) ≡ eval ρ p
  normal-sound (var i) = +ℤ_idr (pos 1 *ℤ (at ρ i *ℤ pos 1)) ∙ one-mul (at ρ i *ℤ pos 1) ∙ *ℤ_comm (at ρ i) (pos 1) ∙ one-mul (at ρ i)
  normal-sound (con z) = push-sound z [] [] ∙ +ℤ_idr (z *ℤ pos 1) ∙ *ℤ_comm z (pos 1) ∙ one-mul z
  normal-sound (p ⊕ q) = add-sound (normal p) (normal q) ∙ ap₂ (λ y z. y +ℤ z) (normal-sound p) (normal-sound q)
  normal-sound (p ⊖ q) =
      add-sound (normal p) (minus (normal q))
      ∙ ap₂ (λ y z. y +ℤ z) (normal-sound p) (minus-sound (normal q) ∙ ap neg_ℤ (normal-sound q))
  normal-sound (p ⊗ q) = mul-sound (normal p) (normal q) ∙ ap₂ (λ y z. y *ℤ z) (normal-sound p) (normal-sound q)
  normal-sound (⊝ p) = minus-sound (normal p) ∙ ap neg_ℤ (normal-sound p)

-- two polynomials with one normal form have one value
pub ring-sound : (ρ : List ℤ) (p q : Poly) → normal p ≡ normal q → eval ρ p ≡ eval ρ q
ring-sound ρ p q e = sym (normal-sound ρ p) ∙ ap (value ρ) e ∙ normal-sound ρ q

-- ---- the form in which it is used: sides as functions of n variables. The k-th variable is number n - k, so that an environment grows
-- at its head.

pub record Sides : Type 0 where
  pub left : Poly
  pub right : Poly

infix 3 ◌≐◌
abbrev pub ◌≐◌ : Poly → Poly → Sides
p ≐ q = record { left = p; right = q }

abbrev pub Fun : ℕ → Type 0 → Type 0
Fun zero A = A
Fun (suc n) A = Poly → Fun n A

abbrev pub body : (A : Type 0) (n : ℕ) → Fun n A → A
body A zero f = f
body A (suc n) f = body A n (f (var n))

-- for every value of n variables, what P says of the environment that holds them
abbrev pub ForAll : (n : ℕ) → (List ℤ → Type 0) → List ℤ → Type 0
ForAll zero P ρ = P ρ
ForAll (suc n) P ρ = (x : ℤ) → ForAll n P (x ∷ ρ)

pub for_all : (n : ℕ) (P : List ℤ → Type 0) → ((ρ : List ℤ) → P ρ) → (ρ : List ℤ) → ForAll n P ρ
for_all zero P h ρ = h ρ
for_all (suc n) P h ρ = λ x. for_all n P h (x ∷ ρ)

pub ring :
    (n : ℕ) (f : Fun n Sides) →
    normal (body Sides n f).left ≡ normal (body Sides n f).right →
    ForAll n (λ ρ. eval ρ (body Sides n f).left ≡ eval ρ (body Sides n f).right) []
ring n f e =
    for_all n (λ ρ. eval ρ (body Sides n f).left ≡ eval ρ (body Sides n f).right)
    (λ ρ. ring-sound ρ (body Sides n f).left (body Sides n f).right e) []
