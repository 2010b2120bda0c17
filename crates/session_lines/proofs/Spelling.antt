-- The word that a text begins with, as the test of slices tells it. No byte of such a word is 0, by which a definition knows a text's end.
use mathlib.Core.Path.{◌≡◌, refl, ap, sym, ◌∙◌, subst}
use mathlib.Core.Bool.{Bool, true, false, ◌&&◌}
use mathlib.Core.List.{List, [], ◌∷◌}
use Prim.Native.Nat.{ℕ, suc, ◌≤◌}
use native.Mathlib.Omega.{arith}
use lib.Dec.{T, eqb, leb}
use borrow.Author.Tests.{leb-true, eq-eqb, ne_eqb, eqb-true, eqb-false}
use Rattle.std.proofs.Common.{nat_eq}
use lib.Pointwise.{pointwise}
use lib.ListN.{length, take}
use Rattle.text.specs.Text.{text}
use Rattle.session_lines.specs.Lines.{begins}

-- no byte is 0
abbrev written : List ℕ → Bool
written [] = true
written (b ∷ word) = leb 1 b && written word

both : (a b : Bool) → (a && b) ≡ true → (a ≡ true) × (b ≡ true)
both true b e = (refl, e)
both false b e = absurd (subst T (sym e) tt)

-- the test of a prefix
stripped-as : (word l : List ℕ) → written word ≡ true → pointwise nat_eq (take (length word) l) word ≡ begins word l
stripped-as [] l e = refl
stripped-as (b ∷ word) [] e =
    let h : 1 ≤ b = leb-true 1 b (both (leb 1 b) (written word) e).0 in
    sym (ap (λ t. t && begins word []) (ne_eqb 0 b (λ q. omega arith)))
stripped-as (b ∷ word) (c ∷ l) e = ap (λ t. eqb c b && t) (stripped-as word l (both (leb 1 b) (written word) e).1)

-- the test of a whole text
suc_eqb : (m n : ℕ) → eqb (suc m) (suc n) ≡ eqb m n
suc_eqb m n = go (eqb m n) refl
  where
    go : (t : Bool) → eqb m n ≡ t → eqb (suc m) (suc n) ≡ t
    go true e = eq-eqb (suc m) (suc n) (ap suc (eqb-true m n e))
    go false e = ne_eqb (suc m) (suc n) (λ q. eqb-false m n e (omega (arith, q)))

and_assoc : (s t u : Bool) → s && (t && u) ≡ (s && t) && u
and_assoc true t u = refl
and_assoc false t u = refl

equal-as : (word l : List ℕ) → written word ≡ true → pointwise nat_eq l word ≡ begins word l && eqb (length l) (length word)
equal-as [] [] e = refl
equal-as [] (c ∷ l) e = sym (ne_eqb (length (c ∷ l)) 0 (λ q. omega arith))
equal-as (b ∷ word) [] e =
    let h : 1 ≤ b = leb-true 1 b (both (leb 1 b) (written word) e).0 in
    sym (ap (λ t. (t && begins word []) && eqb 0 (length (b ∷ word))) (ne_eqb 0 b (λ q. omega arith)))
equal-as (b ∷ word) (c ∷ l) e =
    ap (λ t. eqb c b && t) (equal-as word l (both (leb 1 b) (written word) e).1)
    ∙ and_assoc (eqb c b) (begins word l) (eqb (length l) (length word))
    ∙ ap (λ t. (eqb c b && begins word l) && t) (sym (suc_eqb (length l) (length word)))

-- ---- the four words

module _ (l : List ℕ) where
  pub start-as : pointwise nat_eq (take 5 l) (text "start") ≡ begins (text "start") l
  start-as = stripped-as (text "start") l refl

  pub add-as : pointwise nat_eq (take 3 l) (text "add") ≡ begins (text "add") l
  add-as = stripped-as (text "add") l refl

  pub rule-as : pointwise nat_eq (take 4 l) (text "rule") ≡ begins (text "rule") l
  rule-as = stripped-as (text "rule") l refl

  pub back-as : pointwise nat_eq l (text "back") ≡ begins (text "back") l && eqb (length l) 4
  back-as = equal-as (text "back") l refl
