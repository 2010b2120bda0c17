-- The loop that names the tenant's records: those passed are 4,096 higher, all else is as it was.
use mathlib.Core.Path.{◌≡◌, refl, ◌∙◌, ap}
use mathlib.Core.List.{List}
use Prim.Native.Nat.{ℕ, ◌+◌, ◌≤◌, ◌<◌}
use native.Mathlib.Omega.{arith}
use native.Mathlib.Decide.{ℕ_discrete}
use lib.ListN.{length, get_or, set, length-set}
use lib.Seq.{get_or-set_same, get_or-set_other}
use Rattle.joining.specs.Running.{Renamed}

-- the places n to i are renamed
pub record Halfway (before : List ℕ) (n i : ℕ) (after : List ℕ) : Type 0 where
  pub same_length : length after ≡ length before
  pub site : (j : ℕ) → j < n → get_or after j 0 ≡ get_or before j 0
  pub tenant : (j : ℕ) → n ≤ j → j < i → get_or after j 0 ≡ 4096 + get_or before j 0
  pub rest : (j : ℕ) → i ≤ j → get_or after j 0 ≡ get_or before j 0

pub halfway_start : (l : List ℕ) (n : ℕ) → Halfway l n n l
halfway_start l n =
    record {
      same_length = refl;
      site = λ j h. refl;
      tenant = λ j h k. absurd (let z : ⊥ = omega arith in z);
      rest = λ j h. refl;
    }

module _ (l : List ℕ) (n i : ℕ) (m : List ℕ) (half : Halfway l n i m) (from : n ≤ i) (room : i < length l) where
  abbrev next : List ℕ
  next = set m i (get_or m i 0 + 4096)

  here : get_or next i 0 ≡ 4096 + get_or l i 0
  here =
      get_or-set_same m i (get_or m i 0 + 4096) 0 (omega (arith, half.same_length))
      ∙ turned (get_or m i 0)
      ∙ ap (λ k. 4096 + k) (half.rest i (omega arith))
    where
      turned : (k : ℕ) → k + 4096 ≡ 4096 + k
      turned k = omega arith

  elsewhere : (j : ℕ) → (j ≡ i → ⊥) → get_or next j 0 ≡ get_or m j 0
  elsewhere j other = get_or-set_other m i j (get_or m i 0 + 4096) 0 other

  pub halfway_step : Halfway l n (i + 1) next
  halfway_step =
      record {
        same_length = length-set m i (get_or m i 0 + 4096) ∙ half.same_length;
        site = λ j h. elsewhere j (λ e. omega arith) ∙ half.site j h;
        tenant = λ j h k. go j h k (ℕ_discrete j i);
        rest = λ j h. elsewhere j (λ e. omega arith) ∙ half.rest j (omega arith);
      }
    where
      go : (j : ℕ) → n ≤ j → j < i + 1 → Dec (j ≡ i) → get_or next j 0 ≡ 4096 + get_or l j 0
      go j h k (yes e) = rw e here
      go j h k (no other) = elsewhere j other ∙ half.tenant j h (omega arith)

pub halfway_end : (l : List ℕ) (n m i : ℕ) (after : List ℕ) → Halfway l n i after → n + m ≤ i → Renamed l n m after
halfway_end l n m i after half all =
    record { same_length = half.same_length; site = half.site; tenant = λ j h k. half.tenant j h (omega arith) }
