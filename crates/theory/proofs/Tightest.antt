-- The scans of the model find what they are named for: the tightest point on a line, and the first entry that a point breaks.
use Rattle.std.specs.Prelude.{Option, None, Some}
use mathlib.Core.Path.{◌≡◌, refl, sym, subst}
use mathlib.Core.List.Memᴰ
use mathlib.Core.List.{List, [], ◌∷◌, Memᴰ}
use mathlib.Core.Bool.{Bool, true, false, not}
use mathlib.Core.Logic.{◌⊎◌, inl, inr, ⊎_elim}
use Prim.Native.Nat.{ℕ, zero, suc, ◌+◌}
use native.Mathlib.Omega.{arith}
use lib.Dec.{T}
use lib.IntN.{pos}
use lib.Signed.{lt_z, le_z_yes, lt_z_yes, lt_z_no, clash_ℤ}
use Rattle.ints.specs.Order.{◌≤ᶻ◌, ◌<ᶻ◌}
use Rattle.ints.proofs.Order.{nn_zero, le_z_no}
use Rattle.lp.specs.declared.Constraint.{Constraint}
use Rattle.lp.specs.declared.Point.{Point}
use Rattle.lp.specs.Program.{slack, Keeps}
use Rattle.lp.specs.Outcome.{det, meet, keeps}
use Rattle.model.specs.declared.Met.{Met}
use Rattle.model.specs.Scan.{met, tighter, tightest, first_broken}
use Rattle.theory.proofs.Lists.{At, at-member, for-members}
use Rattle.theory.proofs.Line.{meet-on-first, nearer_keeps}
use Rattle.theory.proofs.Step.{Tight}

-- ---- the tightest point among the constraints that were seen

pub record Nearest (l : Constraint) (Seen : Constraint → Type 0) (k : Constraint) (p : Point) : Type 0 where
  pub seen : Seen k
  pub point : p ≡ meet k l
  pub crosses : pos 0 <ᶻ det k l
  pub nearest : (m : Constraint) → Seen m → pos 0 <ᶻ det m l → Keeps m (meet k l)

abbrev pub Scanned : Constraint → (Constraint → Type 0) → Option Met → Type 0
Scanned l Seen None = (m : Constraint) → Seen m → det m l ≤ᶻ pos 0
Scanned l Seen (Some found) = Nearest l Seen found.entry found.point

module _ (l : Constraint) (Seen : Constraint → Type 0) (i : ℕ) (x : Constraint) where
  abbrev Seen' : Constraint → Type 0
  Seen' m = Seen m ⊎ (m ≡ x)

  on-own-line : (m : Constraint) → m ≡ x → Keeps m (meet x l)
  on-own-line m e = nn_zero (subst (λ y. slack y (meet x l) ≡ pos 0) (sym e) (meet-on-first x l))

  first_found :
      (b : Bool) →
      (T b → pos 0 <ᶻ det x l) →
      (T (not b) → det x l ≤ᶻ pos 0) →
      Scanned l Seen None →
      Scanned l Seen' (elim b [ true ↦ Some (met i x (meet x l)) | false ↦ None ])
  first_found true y n f =
      record { seen = inr refl; point = refl; crosses = y tt; nearest = λ m. ⊎_elim (λ s c. clash_ℤ c (f m s)) (λ e c. on-own-line m e) }
  first_found false y n f = λ m. ⊎_elim (f m) (λ e. subst (λ z. det z l ≤ᶻ pos 0) (sym e) (n tt))

  module _ (j : ℕ) (k : Constraint) (p : Point) (near : Nearest l Seen k p) where
    still-nearest : (pos 0 <ᶻ det x l → Keeps x p) → Nearest l Seen' k p
    still-nearest kept =
        record {
          seen = inl near.seen;
          point = near.point;
          crosses = near.crosses;
          nearest =
              λ m. ⊎_elim (near.nearest m)
              (λ e c. subst (λ z. Keeps m z) near.point (subst (λ z. Keeps z p) (sym e) (kept (subst (λ z. pos 0 <ᶻ det z l) e c))));
        }

    now_nearest : pos 0 <ᶻ det x l → slack x p <ᶻ pos 0 → Nearest l Seen' x (meet x l)
    now_nearest c b =
        record {
          seen = inr refl;
          point = refl;
          crosses = c;
          nearest =
              λ m. ⊎_elim (λ s d. nearer_keeps m k x l near.crosses c d (near.nearest m s d)
              (subst (λ z. slack x z <ᶻ pos 0) near.point b)) (λ e d. on-own-line m e);
        }

    next-found :
        (b c : Bool) →
        (T b → pos 0 <ᶻ det x l) →
        (T (not b) → det x l ≤ᶻ pos 0) →
        (T c → Keeps x p) →
        (T (not c) → slack x p <ᶻ pos 0) →
        Scanned l Seen'
        (elim b [ true ↦ elim c [ true ↦ Some (met j k p) | false ↦ Some (met i x (meet x l)) ] | false ↦ Some (met j k p) ])
    next-found true true yb nb yc nc = still-nearest (λ d. yc tt)
    next-found true false yb nb yc nc = now_nearest (yb tt) (nc tt)
    next-found false c yb nb yc nc = still-nearest (λ d. clash_ℤ d (nb tt))

  tighter-scanned : (f : Option Met) → Scanned l Seen f → Scanned l Seen' (tighter l i x f)
  tighter-scanned None s = first_found (lt_z (pos 0) (det x l)) (λ t. lt_z_yes t) (λ t. lt_z_no t) s
  tighter-scanned (Some found) s =
      next-found found.index found.entry found.point s (lt_z (pos 0) (det x l)) (keeps x found.point)
      (λ t. lt_z_yes t) (λ t. lt_z_no t) (λ t. le_z_yes t) (λ t. le_z_no t)

-- what was seen may be said in another way
rescan :
    (l : Constraint) (Seen Seen' : Constraint → Type 0) →
    ((m : Constraint) → Seen m → Seen' m) →
    ((m : Constraint) → Seen' m → Seen m) →
    (f : Option Met) →
    Scanned l Seen f →
    Scanned l Seen' f
rescan l Seen Seen' to from None s = λ m i. s m (from m i)
rescan l Seen Seen' to from (Some found) s =
    record { seen = to found.entry s.seen; point = s.point; crosses = s.crosses; nearest = λ m i. s.nearest m (from m i) }

pub tightest-scanned :
    (l : Constraint) (Seen : Constraint → Type 0) (i : ℕ) (rest : List Constraint) (f : Option Met) →
    Scanned l Seen f →
    Scanned l (λ m. Seen m ⊎ Memᴰ m rest) (tightest l i rest f)
tightest-scanned l Seen i [] f s =
    rescan l Seen (λ m. Seen m ⊎ Memᴰ m []) (λ m x. inl x) (λ m. ⊎_elim (λ x. x) (λ j. absurd (Memᴰ.not-nil j))) f s
tightest-scanned l Seen i (x ∷ rest) f s =
    rescan l (λ m. (Seen m ⊎ (m ≡ x)) ⊎ Memᴰ m rest) (λ m. Seen m ⊎ Memᴰ m (x ∷ rest))
    (λ m. ⊎_elim (⊎_elim (λ p. inl p) (λ e. inr (Memᴰ.head e))) (λ j. inr (Memᴰ.tail j)))
    (λ m. ⊎_elim (λ p. inl (inl p)) (λ j. ⊎_elim (λ e. inl (inr e)) (λ q. inr q) (Memᴰ.cases_cons j)))
    (tightest l (suc i) rest (tighter l i x f))
    (tightest-scanned l (λ m. Seen m ⊎ (m ≡ x)) (suc i) rest (tighter l i x f) (tighter-scanned l Seen i x f s))

-- over a whole system: either no entry is met along the line, or the tightest one is found
abbrev pub Outcome_of_scan : List Constraint → Constraint → Option Met → Type 0
Outcome_of_scan S l None = (m : Constraint) → Memᴰ m S → det m l ≤ᶻ pos 0
Outcome_of_scan S l (Some found) = Tight S l found.entry × (found.point ≡ meet found.entry l) × At S found.index found.entry

-- ---- indexes

abbrev Indexed : List Constraint → Option Met → Type 0
Indexed S None = Unit {0}
Indexed S (Some found) = At S found.index found.entry

tighter_indexed :
    (S : List Constraint) (l : Constraint) (i : ℕ) (x : Constraint) →
    At S i x →
    (f : Option Met) →
    Indexed S f →
    Indexed S (tighter l i x f)
tighter_indexed S l i x a None s = go (lt_z (pos 0) (det x l))
  where
    go : (b : Bool) → Indexed S (elim b [ true ↦ Some (met i x (meet x l)) | false ↦ None ])
    go true = a
    go false = tt
tighter_indexed S l i x a (Some found) s = go (lt_z (pos 0) (det x l)) (keeps x found.point)
  where
    go :
        (b c : Bool) →
        Indexed S (elim b [ true ↦ elim c [ true ↦ Some found | false ↦ Some (met i x (meet x l)) ] | false ↦ Some found ])
    go true true = s
    go true false = a
    go false c = s

-- the entries of `rest` stand in S from index i on
abbrev pub Suffix : List Constraint → ℕ → List Constraint → Type 0
Suffix S i rest = (n : ℕ) (x : Constraint) → At rest n x → At S (n + i) x

suffix_tail : (S : List Constraint) (i : ℕ) (x : Constraint) (rest : List Constraint) → Suffix S i (x ∷ rest) → Suffix S (suc i) rest
suffix_tail S i x rest f n y a = subst (λ k. At S k y) shift (f (suc n) y a)
  where
    shift : suc n + i ≡ n + suc i
    shift = omega arith

suffix_head : (S : List Constraint) (i : ℕ) (x : Constraint) (rest : List Constraint) → Suffix S i (x ∷ rest) → At S i x
suffix_head S i x rest f = subst (λ k. At S k x) none (f zero x refl)
  where
    none : zero + i ≡ i
    none = omega arith

pub suffix_all : (S : List Constraint) → Suffix S 0 S
suffix_all S n x a = subst (λ k. At S k x) none a
  where
    none : n ≡ n + 0
    none = omega arith

tightest_indexed :
    (S : List Constraint) (l : Constraint) (i : ℕ) (rest : List Constraint) →
    Suffix S i rest →
    (f : Option Met) →
    Indexed S f →
    Indexed S (tightest l i rest f)
tightest_indexed S l i [] suffix f s = s
tightest_indexed S l i (x ∷ rest) suffix f s =
    tightest_indexed S l (suc i) rest (suffix_tail S i x rest suffix) (tighter l i x f)
    (tighter_indexed S l i x (suffix_head S i x rest suffix) f s)

pub scan_finds : (S : List Constraint) (l : Constraint) → Outcome_of_scan S l (tightest l 0 S None)
scan_finds S l =
    go (tightest l 0 S None) (tightest-scanned l (λ m. ⊥) 0 S None (λ m e. absurd e))
    (tightest_indexed S l 0 S (suffix_all S) None tt)
  where
    go : (f : Option Met) → Scanned l (λ m. ⊥ ⊎ Memᴰ m S) f → Indexed S f → Outcome_of_scan S l f
    go None s a = λ m i. s m (inr i)
    go (Some found) s a = (
      record { member = at-member S found.index found.entry a; crosses = s.crosses; tightest = λ m i. s.nearest m (inr i) },
      s.point,
      a,
    )

-- ---- the first entry that is broken

abbrev pub Outcome_of_check : List Constraint → Point → List Constraint → Option (ℕ × Constraint) → Type 0
Outcome_of_check S v rest None = (m : Constraint) → Memᴰ m rest → Keeps m v
Outcome_of_check S v rest (Some (i, m)) = At S i m × (slack m v <ᶻ pos 0)

check-from :
    (S : List Constraint) (v : Point) (i : ℕ) (rest : List Constraint) →
    Suffix S i rest →
    Outcome_of_check S v rest (first_broken v i rest)
check-from S v i [] suffix = λ m j. absurd (Memᴰ.not-nil j)
check-from S v i (x ∷ rest) suffix =
    go (keeps x v) (λ t. le_z_yes t) (λ t. le_z_no t) (first_broken v (suc i) rest)
    (check-from S v (suc i) rest (suffix_tail S i x rest suffix))
  where
    passed : Keeps x v → (b : Option (ℕ × Constraint)) → Outcome_of_check S v rest b → Outcome_of_check S v (x ∷ rest) b
    passed k None f = for-members (λ m. Keeps m v) x rest k f
    passed k (Some (n, m)) f = f

    go :
        (c : Bool) →
        (T c → Keeps x v) →
        (T (not c) → slack x v <ᶻ pos 0) →
        (b : Option (ℕ × Constraint)) →
        Outcome_of_check S v rest b →
        Outcome_of_check S v (x ∷ rest) (elim c [ true ↦ b | false ↦ Some (i, x) ])
    go true y n b f = passed (y tt) b f
    go false y n b f = (suffix_head S i x rest suffix, n tt)

pub check-finds : (S : List Constraint) (v : Point) → Outcome_of_check S v S (first_broken v 0 S)
check-finds S v = check-from S v 0 S (suffix_all S)
