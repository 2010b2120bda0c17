-- A slip's text in a buffer that has room for it, and what a comparison with what is written says.
use mathlib.Core.Path.{◌≡◌, refl, ap, sym, ◌∙◌, subst}
use mathlib.Core.Bool.{Bool, true, false, ◌&&◌}
use mathlib.Core.List.{List, [], ◌∷◌, ◌++◌}
use mathlib.Core.Logic.{◌⊎◌, inl, inr}
use Prim.Native.Nat.{ℕ, ◌≤◌}
use native.Mathlib.Nat.{zero-add}
use native.Mathlib.Omega.{arith}
use lib.Dec.{T, eqb}
use lib.Pointwise.{pointwise}
use borrow.Author.Tests.{eq-eqb}
use Rattle.std.specs.Cmp.Lexicographic.{same_text}
use lib.ListN.{length, take, drop}
use lib.Seq.{take_at, sets-eq}
use Rattle.std.proofs.lemmas.List.{append_cancel_right}
use Rattle.text.specs.Text.{text}
use Rattle.text.specs.Append.{Appended}
use Rattle.slip_reader.specs.Asked.{Judges}

true-false : {A : Type 0} → true ≡ false → A
true-false e = absurd (subst T e tt)

-- a text is alike itself
itself : (l : List ℕ) → pointwise eqb l l ≡ true
itself [] = refl
itself (b ∷ l) = λ i. eq-eqb b b refl i && itself l i

differ : (a b : List ℕ) → false ≡ pointwise eqb a b → a ≡ b → ⊥
differ a b e q = true-false (sym (itself a) ∙ ap (pointwise eqb a) q ∙ sym e)

-- ---- what was written at the start of a buffer

taken : {before after bytes : List ℕ} {room end : ℕ} →
    room ≤ length before →
    Appended before 0 bytes room after end →
    take end after ≡ bytes
taken {before} {after} {bytes} {room} {end} h f =
    ap (take end)
    (f.stored ∙ sets-eq bytes before 0 (omega (arith, f.small, h)) ∙ ap (λ (n : ℕ). bytes ++ drop n before) (zero-add (length bytes)))
    ∙ take_at bytes (drop (length bytes) before) end (omega (arith, f.moved))

pub judges-taken : {before after out bytes l : List ℕ} {room end : ℕ} {r : Bool} →
    Judges (take end out) l r →
    room ≤ length before →
    Appended before 0 bytes room after end →
    out ≡ after →
    Judges bytes l r
judges-taken {l = l} {end = end} {r = r} j h f e = subst (λ (w : List ℕ). Judges w l r) (ap (take end) e ∙ taken h f) j

-- ---- a comparison with what was written, and one without the line feed

module _ (written l : List ℕ) where
  pub alike : {b : Bool} → b ≡ pointwise eqb l written → b ≡ true → Judges written l true
  alike e t = record { met = λ _. inl (same_text l written (sym t ∙ e)); unmet = λ q. true-false q }

  module _ {b : Bool} (e : b ≡ pointwise eqb l written) (t : b ≡ false) where
    pub without_feed : (front : List ℕ) {r : Bool} → l ≡ front ++ text "\n" → r ≡ pointwise eqb front written → Judges written l r
    without_feed front {r} s f =
        record {
          met = λ q. inr (s ∙ ap (λ m. m ++ text "\n") (same_text front written (sym q ∙ f)));
          unmet = go;
        }
      where
        go : r ≡ false → (l ≡ written) ⊎ (l ≡ written ++ text "\n") → ⊥
        go q (inl z) = differ l written (sym t ∙ e) z
        go q (inr z) = differ front written (sym q ∙ f) (append_cancel_right front written (text "\n") (sym s ∙ z))

    pub no_feed : ((front : List ℕ) → l ≡ front ++ text "\n" → ⊥) → Judges written l false
    no_feed n = record { met = λ q. true-false (sym q); unmet = go }
      where
        go : false ≡ false → (l ≡ written) ⊎ (l ≡ written ++ text "\n") → ⊥
        go q (inl z) = differ l written (sym t ∙ e) z
        go q (inr z) = n written z
