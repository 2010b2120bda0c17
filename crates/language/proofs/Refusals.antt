-- The refusals of a tree's value are 14 and 15, and an accepted rule is within its limits. So a text is accepted or refused 14 or 15
-- exactly if some lawful tree spells it, and refused 13 exactly if none does.
use mathlib.Core.Path.{◌≡◌, refl, ap, sym, ◌∙◌, subst}
use mathlib.Core.Logic.{◌⊎◌, inl, inr, ◌↔◌}
use mathlib.Core.Bool.{Bool, true, false, cond, ◌&&◌}
use mathlib.Core.List.{List}
use Prim.Native.Nat.{ℕ, ◌≤◌}
use native.Mathlib.Omega.{arith}
use lib.Dec.{leb}
use lib.IntN.{pos, nat_abs}
use borrow.Author.Tests.{leb-true}
use Rattle.forms.specs.declared.Form.{Form}
use Rattle.std.specs.Prelude.{Ok, Err}
use Rattle.forms.specs.declared.Flaw.{Flaw}
use Rattle.forms.specs.declared.Flaw.TheVariants.{Text, Product, Size}
use Rattle.forms.specs.declared.Sense.{Sense}
use Rattle.forms.specs.declared.Sense.TheVariants.{AtMost, AtLeast}
use Rattle.forms.specs.declared.Written.{Written}
use Rattle.language.specs.Grammar as G
use Rattle.language.specs.Grammar.{number, rate_x, rate_y, minus, group, factor, times, term, plus, less}
use Rattle.text.specs.Number.{value_from}
use Rattle.forms.specs.Value.{Value, Typed, kind_of, refusal_of, inside, limit, form, limited, numeral, constant, multiplied, mul_forms, add_forms, sub_forms, negated, sum, difference, product, combine, no_rule, written, final, conclude}
use Rattle.language.specs.Value.{value_factor, value_term, value_side, sense_of, value_rule}
use Rattle.language.specs.Parser.{answer}
use Rattle.language.proofs.Language.{answered, Reads, Refuses, language}

-- a product's flaw, refused 14, or a size's, refused 15
abbrev pub Fault : Flaw → Type 0
Fault e = ((e ≡ Product) × ((refusal_of e).number ≡ 14)) ⊎ ((e ≡ Size) × ((refusal_of e).number ≡ 15))

abbrev pub Plain : Value → Type 0
Plain (Ok f) = Unit {0}
Plain (Err e) = Fault e

limited-plain : (f : Form) → Plain (limited f)
unfolding limited
limited-plain f = go (inside limit f.a && (inside limit f.b && inside limit f.c))
  where
    go : (t : Bool) → Plain (cond t (Ok f) (Err Size))
    go true = tt
    go false = inr (refl, refl)

numeral-plain : (n : ℕ) → Plain (numeral n)
unfolding numeral
numeral-plain n = go (leb n limit)
  where
    go : (t : Bool) → Plain (cond t (Ok (form (pos 0) (pos 0) (pos n))) (Err Size))
    go true = tt
    go false = inr (refl, refl)

multiplied-plain : (f g : Form) → Plain (multiplied f g)
unfolding multiplied
multiplied-plain f g = go (constant f) (constant g)
  where
    go : (t u : Bool) → Plain (cond t (limited (mul_forms f g)) (cond u (limited (mul_forms f g)) (Err Product)))
    go true u = limited-plain (mul_forms f g)
    go false true = limited-plain (mul_forms f g)
    go false false = inl (refl, refl)

combine-plain : (op : Form → Form → Value) →
    ((f g : Form) → Plain (op f g)) →
    (v w : Value) →
    Plain v →
    Plain w →
    Plain (combine op v w)
combine-plain op h (Ok f) (Ok g) p q = h f g
combine-plain op h (Ok f) (Err e) p q = q
combine-plain op h (Err e) (Ok g) p q = p
combine-plain op h (Err e) (Err d) p q = p

negated-plain : (v : Value) → Plain v → Plain (negated v)
unfolding negated
negated-plain (Ok f) p = tt
negated-plain (Err e) p = p

product-plain : (v w : Value) → Plain v → Plain w → Plain (product v w)
unfolding product
product-plain v w p q = combine-plain multiplied multiplied-plain v w p q

sum-plain : (v w : Value) → Plain v → Plain w → Plain (sum v w)
unfolding sum
sum-plain v w p q = combine-plain (λ f g. limited (add_forms f g)) (λ f g. limited-plain (add_forms f g)) v w p q

difference-plain : (v w : Value) → Plain v → Plain w → Plain (difference v w)
unfolding difference
difference-plain v w p q = combine-plain (λ f g. limited (sub_forms f g)) (λ f g. limited-plain (sub_forms f g)) v w p q

mutual
  unfolding value_factor

  factor-plain : (f : G.Factor) → Plain (value_factor f)
  factor-plain (number i ds) = numeral-plain (value_from 0 ds)
  factor-plain (rate_x i) = tt
  factor-plain (rate_y i) = tt
  factor-plain (minus i f) = negated-plain (value_factor f) (factor-plain f)
  factor-plain (group i s j) = side-plain s

  term-plain : (t : G.Term) → Plain (value_term t)
  term-plain (factor f) = factor-plain f
  term-plain (times t i f) = product-plain (value_term t) (value_factor f) (term-plain t) (factor-plain f)

  side-plain : (a : G.Side) → Plain (value_side a)
  side-plain (term t) = term-plain t
  side-plain (plus a i t) = sum-plain (value_side a) (value_term t) (side-plain a) (term-plain t)
  side-plain (less a i t) = difference-plain (value_side a) (value_term t) (side-plain a) (term-plain t)

abbrev pub Kind : ℕ → Type 0
Kind k = (k ≡ 1) ⊎ (k ≡ 2)

kind-of : (k : Sense) → Kind (kind_of k)
kind-of AtMost = inl refl
kind-of AtLeast = inr refl

-- an accepted rule: kind 1 or 2, a and b at most 32,767 and c at most 1,000,000,000 either way
pub record InRange (w : Written Sense) : Type 0 where
  pub kind : Kind (kind_of w.sense)
  pub a : nat_abs w.a ≤ 32767
  pub b : nat_abs w.b ≤ 32767
  pub c : nat_abs w.c ≤ 1000000000

abbrev pub Sound : Typed → Type 0
Sound (Ok w) = InRange w
Sound (Err e) = Fault e × ((refusal_of e).at ≡ 0)

final-sound : (w : Written Sense) → Sound (final w)
unfolding final
final-sound w = go (inside 32767 w.a) refl (inside 32767 w.b) refl (inside limit w.c) refl
  where
    go : (s : Bool) →
        inside 32767 w.a ≡ s →
        (t : Bool) →
        inside 32767 w.b ≡ t →
        (u : Bool) →
        inside limit w.c ≡ u →
        Sound (cond (s && (t && u)) (Ok w) (no_rule Size))
    go true e true f true g =
        record {
          kind = kind-of w.sense;
          a = leb-true (nat_abs w.a) 32767 e;
          b = leb-true (nat_abs w.b) 32767 f;
          c = leb-true (nat_abs w.c)
              limit g;
        }
    go true e true f false g = (inr (refl, refl), refl)
    go true e false f u g = (inr (refl, refl), refl)
    go false e t f u g = (inr (refl, refl), refl)

conclude-sound : (k : Sense) (v w : Value) → Plain v → Plain w → Sound (conclude k v w)
unfolding conclude
conclude-sound k (Ok f) (Ok g) p q = final-sound (written k f g)
conclude-sound k (Ok f) (Err e) p q = (q, refl)
conclude-sound k (Err e) (Ok g) p q = (p, refl)
conclude-sound k (Err e) (Err d) p q = (p, refl)

-- a tree's value is a rule within its limits, or 14, or 15
pub value-sound : (r : G.Rule) → Sound (value_rule r)
unfolding value_rule
value-sound r =
    conclude-sound (sense_of r.relation) (value_side r.left) (value_side r.right) (side-plain r.left)
    (side-plain r.right)

not_thirteen : Fault Text → ⊥
not_thirteen (inl h) = omega (arith, h.1)
not_thirteen (inr h) = omega (arith, h.1)

thirteen : (t : Typed) → Sound t → t ≡ no_rule Text → ⊥
thirteen (Ok w) h e = cc
thirteen (Err x) h e =
    let same : x ≡ Text = cc in
    not_thirteen (subst Fault same h.0)

-- ---- the language, in both directions

-- what a lawful tree spells is accepted, or refused 14 or 15
spelt-sound : (s : List ℕ) (r : G.Rule) → G.LawfulRule r → s ≡ G.spell r → Sound (answer s)
spelt-sound s r l p = subst Sound (sym (ap answer p ∙ answered r l)) (value-sound r)

-- accepted, or refused 14 or 15, exactly if some lawful tree spells the text
pub read-exactly : (s : List ℕ) → Sound (answer s) ↔ ((r : G.Rule) × G.LawfulRule r × (s ≡ G.spell r))
read-exactly s = ((λ h. tree h (language s)), (λ t. spelt-sound s t.0 t.1 t.2))
  where
    tree : Sound (answer s) → Reads s ⊎ Refuses s → (r : G.Rule) × G.LawfulRule r × (s ≡ G.spell r)
    tree h (inl r) = (r.tree, r.lawful, r.text)
    tree h (inr n) = absurd (thirteen (answer s) h n.answer)

-- 13 exactly if no lawful tree spells the text
pub refused_13_exactly : (s : List ℕ) → (answer s ≡ no_rule Text) ↔ ((r : G.Rule) → G.LawfulRule r → s ≡ G.spell r → ⊥)
refused_13_exactly s = ((λ e r l p. thirteen (answer s) (spelt-sound s r l p) e), (λ none. refused none (language s)))
  where
    refused : ((r : G.Rule) → G.LawfulRule r → s ≡ G.spell r → ⊥) → Reads s ⊎ Refuses s → answer s ≡ no_rule Text
    refused none (inl r) = absurd (none r.tree r.lawful r.text)
    refused none (inr n) = n.answer
