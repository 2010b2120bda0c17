-- The passes over the chain's runs, from place i to n: what is left of a pass at i gives the answer of the whole. One record says so for
-- each loop, with its start, its step and its end.
use mathlib.Core.Path.{◌≡◌, refl, sym, ◌∙◌, ap, subst}
use mathlib.Core.List.{List}
use mathlib.Core.Bool.{Bool, true, false}
use Prim.Native.Nat.{ℕ, zero, suc, ◌+◌, ◌-◌, ◌≤◌, ◌<◌}
use native.Mathlib.Omega.{arith}
use native.Mathlib.Nat.{sub-zero}
use native.Mathlib.Numerals.{add-one}
use lib.IntN.{ℤ, pos}
use lib.Signed.{le_z}
use Rattle.lp.specs.declared.Constraint.{Constraint}
use Rattle.lp.specs.declared.Point.{Point}
use Rattle.lp.specs.declared.Ray.{Ray}
use Rattle.lp.specs.Program.{rise}
use Rattle.lp.specs.Outcome.{every, keeps}
use Rattle.lp.specs.Range.{SmallConstraint}
use Rattle.slip.specs.Runs.{entry, entries, Room, Entries, Checking, Rising, Placed, Risen}

pub entry-room : {l : List ℤ} {n : ℕ} → Entries l n → {k : ℕ} → k < n → Room l k
entry-room h {k} b = record { room = omega (arith, h.room) }

left_over : (n i : ℕ) → i < n → n - i ≡ suc (n - suc i)
left_over n i h = omega arith

nothing-over : (n i : ℕ) → n ≤ i → n - i ≡ 0
nothing-over n i h = omega arith

-- ---- a test of every rule

module _ (test : Constraint → Bool) where
  pub record Tested (l : List ℤ) (n : ℕ) (i : ℕ) : Type 0 where
    pub inside : i ≤ n
    pub rest : every test (entries l i (n - i)) ≡ every test (entries l 0 n)

  tested-start : (l : List ℤ) (n : ℕ) → Tested l n 0
  tested-start l n = record { inside = omega arith; rest = rw sub-zero refl }

  module _ {l : List ℤ} {n i : ℕ} (t : Tested l n i) where
    at_entry : i < n → {s : Bool} → test (entry l i) ≡ s →
        elim s [ true ↦ every test (entries l (suc i) (n - suc i)) | false ↦ false ] ≡ every test (entries l 0 n)
    at_entry b {s} e =
        ap (λ s. elim s [ true ↦ every test (entries l (suc i) (n - suc i)) | false ↦ false ]) (sym e)
        ∙ sym (ap (λ m. every test (entries l i m)) (left_over n i b))
        ∙ t.rest

    tested-step : {m : Constraint} → i < n → m ≡ entry l i → test m ≡ true → Tested l n (i + 1)
    tested-step b e k = record { inside = omega arith; rest = rw add-one (at_entry b (ap test (sym e) ∙ k)) }

    tested-stop : {m : Constraint} → i < n → m ≡ entry l i → test m ≡ false → false ≡ every test (entries l 0 n)
    tested-stop b e k = at_entry b (ap test (sym e) ∙ k)

    tested-end : n ≤ i → true ≡ every test (entries l 0 n)
    tested-end b = sym (ap (λ m. every test (entries l i m)) (nothing-over n i b)) ∙ t.rest

-- ---- whether a point keeps every rule

abbrev pub Kept : List ℤ → ℕ → Point → ℕ → Type 0
Kept l n v i = Tested (λ r. keeps r v) l n i

pub kept-start : (l : List ℤ) (n : ℕ) (v : Point) → Kept l n v 0
kept-start l n v = tested-start (λ r. keeps r v) l n

module _ {l : List ℤ} {n : ℕ} {v : Point} where
  pub kept_asks : Checking l n v → {i : ℕ} {m : Constraint} → i < n → m ≡ entry l i → Placed m v
  kept_asks h {i} b e = record { rule = subst SmallConstraint (sym e) (h.entries.small i b); pair = h.pair }

  module _ {i : ℕ} (t : Kept l n v i) where
    pub kept_step : {m : Constraint} → i < n → m ≡ entry l i → keeps m v ≡ true → Kept l n v (i + 1)
    kept_step b e k = tested-step (λ r. keeps r v) t b e k

    pub kept-stop : {m : Constraint} → i < n → m ≡ entry l i → keeps m v ≡ false → false ≡ every (λ r. keeps r v) (entries l 0 n)
    kept-stop b e k = tested-stop (λ r. keeps r v) t b e k

    pub kept-end : n ≤ i → true ≡ every (λ r. keeps r v) (entries l 0 n)
    kept-end b = tested-end (λ r. keeps r v) t b

-- ---- whether no rule is left along a ray

abbrev pub Stayed : List ℤ → ℕ → Ray → ℕ → Type 0
Stayed l n d i = Tested (λ r. le_z (rise r d) (pos 0)) l n i

pub stayed_start : (l : List ℤ) (n : ℕ) (d : Ray) → Stayed l n d 0
stayed_start l n d = tested-start (λ r. le_z (rise r d) (pos 0)) l n

module _ {l : List ℤ} {n : ℕ} {d : Ray} where
  pub stayed_asks : Rising l n d → {i : ℕ} {m : Constraint} → i < n → m ≡ entry l i → Risen m d
  stayed_asks h {i} b e = record { rule = subst SmallConstraint (sym e) (h.entries.small i b); ray = h.ray }

  module _ {i : ℕ} (t : Stayed l n d i) where
    pub stayed_step : {m : Constraint} → i < n → m ≡ entry l i → le_z (rise m d) (pos 0) ≡ true → Stayed l n d (i + 1)
    stayed_step b e k = tested-step (λ r. le_z (rise r d) (pos 0)) t b e k

    pub stayed_stop :
        {m : Constraint} →
        i < n →
        m ≡ entry l i →
        le_z (rise m d) (pos 0) ≡ false →
        false ≡ every (λ r. le_z (rise r d) (pos 0)) (entries l 0 n)
    stayed_stop b e k = tested-stop (λ r. le_z (rise r d) (pos 0)) t b e k

    pub stayed_end : n ≤ i → true ≡ every (λ r. le_z (rise r d) (pos 0)) (entries l 0 n)
    stayed_end b = tested-end (λ r. le_z (rise r d) (pos 0)) t b
