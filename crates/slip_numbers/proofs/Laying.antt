-- A slip laid out in a run: its 14 numbers where there is room, else nothing.
use mathlib.Core.Path.{◌≡◌, refl, sym, ◌∙◌, ap}
use mathlib.Core.List.{List, [], ◌∷◌, ◌++◌}
use mathlib.Core.Bool.{Bool, true, false, cond}
use Prim.Native.Nat.{ℕ, suc, ◌≤◌, ◌<◌}
use native.Mathlib.Omega.{arith}
use borrow.Author.Tests.{leb-true, le-leb}
use lib.Dec.{leb}
use lib.ListN.{length, drop, set}
use lib.IntN.{ℤ}
use Rattle.slip.specs.declared.Slip.{Slip}
use Rattle.slip_numbers.specs.Form.{numbers_of, puts, Laid}

-- ---- numbers put one by one stand before what they leave of the run

puts-behind : (xs : List ℤ) (y : ℤ) (l : List ℤ) (k : ℕ) → puts (y ∷ l) (suc k) xs ≡ y ∷ puts l k xs
puts-behind [] y l k = refl
puts-behind (x ∷ xs) y l k = puts-behind xs y (set l k x) (suc k)

puts-first : (xs l : List ℤ) → length xs ≤ length l → puts l 0 xs ≡ xs ++ drop (length xs) l
puts-first [] l h = refl
puts-first (x ∷ xs) [] h = absurd (beyond (length xs) h)
  where
    beyond : (n : ℕ) → suc n ≤ 0 → ⊥
    beyond n h = omega arith
puts-first (x ∷ xs) (z ∷ l) h = puts-behind xs x l 0 ∙ ap (λ t. x ∷ t) (puts-first xs l (omega (arith, h)))

-- ---- a slip

module _ (s : Slip) (l : List ℤ) where
  pub laid-short : length l < 14 → Laid s l 0 l
  laid-short h =
      record {
        count = sym (ap (λ b. cond b 14 0) no_room);
        run = sym (ap (λ b. cond b (puts l 0 (numbers_of s)) l) no_room);
      }
    where
      no_room : leb 14 (length l) ≡ false
      no_room = go (leb 14 (length l)) refl
        where
          short : 14 ≤ length l → ⊥
          short k = omega (arith, h)

          go : (b : Bool) → leb 14 (length l) ≡ b → leb 14 (length l) ≡ false
          go true e = absurd (short (leb-true 14 (length l) e))
          go false e = e

  pub laid_out : 14 ≤ length l → {first : List ℤ} → first ≡ numbers_of s → Laid s l 14 (first ++ drop 14 l)
  laid_out h {first} e =
      record {
        count = sym (ap (λ b. cond b 14 0) room);
        run =
            ap (λ t. t ++ drop 14 l) e
            ∙ sym (puts-first (numbers_of s) l h)
            ∙ sym (ap (λ b. cond b (puts l 0 (numbers_of s)) l) room);
      }
    where
      room : leb 14 (length l) ≡ true
      room = le-leb 14 (length l) h
