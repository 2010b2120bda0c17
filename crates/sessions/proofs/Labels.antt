-- Looking a label up among the rules held.
use mathlib.Core.Path.{◌≡◌, refl, sym, ◌∙◌, ap}
use mathlib.Core.Bool.{Bool, true, false, ◌||◌}
use mathlib.Core.List.{List, [], ◌∷◌, map}
use Prim.Native.Nat.{ℕ, zero, suc, ◌≤◌, ◌<◌}
use native.Mathlib.Omega.{arith}
use borrow.Author.Tests.{eq-eqb}
use lib.Dec.{eqb}
use lib.ListN.{length, take, get_or}
use lib.Seq.{get_or-take, length-take-le}
use Rattle.std.specs.List.{list_any}
use Rattle.records.specs.declared.Rule.{Rule}
use Rattle.book.specs.Reading.{memb}
use Rattle.sessions.specs.declared.Session.{Session}
use Rattle.sessions.specs.Sessions.{no_rule, label_held}

abbrev labels : List Rule → List ℕ
labels l = map (λ (r : Rule). r.label) l

or_true : (b : Bool) → (b || true) ≡ true
or_true true = refl
or_true false = refl

there : (l : List Rule) (k label : ℕ) → k < length l → (get_or l k no_rule).label ≡ label → memb label (labels l) ≡ true
unfolding memb
there [] k label h e = absurd (let z : ⊥ = omega arith in z)
there (r ∷ l) zero label h e = ap (λ b. b || memb label (labels l)) (eq-eqb label r.label (sym e))
there (r ∷ l) (suc k) label h e =
    ap (λ b. eqb label r.label || b) (there l k label (omega arith) e) ∙ or_true (eqb label r.label)

looked : (l : List Rule) (label : ℕ) → list_any (λ (r : Rule). eqb label r.label) l ≡ memb label (labels l)
unfolding memb
looked [] label = refl
looked (r ∷ l) label = ap (λ b. eqb label r.label || b) (looked l label)

-- a look through the rules held
pub label-looked : (s : Session) (label : ℕ) → list_any (λ (r : Rule). eqb label r.label) (take s.n s.rules) ≡ label_held s label
label-looked s label = looked (take s.n s.rules) label

module _ (s : Session) (label : ℕ) (inside : s.n ≤ length s.rules) where
  many : length (take s.n s.rules) ≡ s.n
  many = length-take-le s.n s.rules inside

  pub label-there : (k : ℕ) → k < s.n → (get_or s.rules k no_rule).label ≡ label → true ≡ label_held s label
  label-there k h e =
      sym (there (take s.n s.rules) k label (omega (arith, many))
      (ap (λ (r : Rule). r.label) (get_or-take s.n s.rules k no_rule h) ∙ e))

  pub label-new : label_held s label ≡ false → (k : ℕ) → k < s.n → (get_or s.rules k no_rule).label ≡ label → ⊥
  label-new none k h e = let clash = label-there k h e ∙ none in let z : ◌≡◌ {A = ℕ} 0 1 = cc in let b : ⊥ = omega arith in b
