-- The flaws of texts: a text's, a product's or a size's. The operations on values make no other flaw, and hand on what they are given; so
-- of values that have none but these they hand back none but these.
use mathlib.Core.Bool.{Bool, true, false}
use Prim.Native.Nat.{ℕ}
use Rattle.std.specs.Prelude.{cond, leb, pos, Result, Ok, Err}
use Rattle.forms.specs.declared.Form.{Form}
use Rattle.forms.specs.declared.Flaw.{Flaw}
use Rattle.forms.specs.declared.Flaw.TheVariants.{Text, Product, Size, Other}
use Rattle.forms.specs.declared.Written.{Written}
use Rattle.forms.specs.Value.{Value, bounded, limit, form, limited, numeral, add_forms, sub_forms, mul_forms, neg_form, constant, multiplied, after, combine, negated, sum, difference, product, held, written, final, no_rule, conclude}
use Rattle.forms.specs.Small.{pair_of}

abbrev pub Known : Flaw → Type 0
Known Text = Unit {0}
Known Product = Unit {0}
Known Size = Unit {0}
Known (Other n) = ⊥

abbrev pub KnownIn : {A : Type 0} → Result A Flaw → Type 0
KnownIn (Ok x) = Unit {0}
KnownIn (Err e) = Known e

pub limited-known : (f : Form) → KnownIn (limited f)
unfolding limited
limited-known f = go (bounded limit limit f)
  where
    go : (t : Bool) → KnownIn (cond t (Ok f) (Err Size))
    go true = tt
    go false = tt

pub numeral-known : (n : ℕ) → KnownIn (numeral n)
unfolding numeral
numeral-known n = go (leb n limit)
  where
    go : (t : Bool) → KnownIn (cond t (Ok (form (pos 0) (pos 0) (pos n))) (Err Size))
    go true = tt
    go false = tt

multiplied-known : (f g : Form) → KnownIn (multiplied f g)
unfolding multiplied
multiplied-known f g = go (constant f) (constant g)
  where
    go : (t u : Bool) → KnownIn (cond t (limited (mul_forms f g)) (cond u (limited (mul_forms f g)) (Err Product)))
    go true u = limited-known (mul_forms f g)
    go false true = limited-known (mul_forms f g)
    go false false = tt

after-known : (op : Form → Value) → ((f : Form) → KnownIn (op f)) → (v : Value) → KnownIn v → KnownIn (after op v)
after-known op h (Ok f) k = h f
after-known op h (Err e) k = k

combine-known : (op : Form → Form → Value) →
    ((f g : Form) → KnownIn (op f g)) →
    (v w : Value) →
    KnownIn v →
    KnownIn w →
    KnownIn (combine op v w)
combine-known op h v w k m = after-known (λ f. after (λ g. op f g) w) (λ f. after-known (op f) (h f) w m) v k

pub held-known : (v : Value) → KnownIn v → KnownIn (held v)
unfolding held
held-known v k = after-known limited limited-known v k

pub paired-known : (v w : Value) → KnownIn v → KnownIn w → KnownIn (pair_of v w)
paired-known (Ok f) (Ok g) k m = tt
paired-known (Ok f) (Err e) k m = m
paired-known (Err e) w k m = k

pub negated-known : (v : Value) → KnownIn v → KnownIn (negated v)
unfolding negated
negated-known v k = after-known (λ f. Ok (neg_form f)) (λ f. tt) v k

module _ (v w : Value) (k : KnownIn v) (m : KnownIn w) where
  pub sum-known : KnownIn (sum v w)
  unfolding sum
  sum-known = combine-known (λ f g. limited (add_forms f g)) (λ f g. limited-known (add_forms f g)) v w k m

  pub difference-known : KnownIn (difference v w)
  unfolding difference
  difference-known = combine-known (λ f g. limited (sub_forms f g)) (λ f g. limited-known (sub_forms f g)) v w k m

  pub product-known : KnownIn (product v w)
  unfolding product
  product-known = combine-known multiplied multiplied-known v w k m

final-known : {K : Type 0} (w : Written K) → KnownIn (final w)
unfolding final
final-known w = go (bounded 32767 limit (form w.a w.b w.c))
  where
    go : (t : Bool) → KnownIn (cond t (Ok w) (no_rule Size))
    go true = tt
    go false = tt

pub conclude-known : {K : Type 0} (s : K) (v w : Value) → KnownIn v → KnownIn w → KnownIn (conclude s v w)
unfolding conclude
conclude-known s (Ok f) (Ok g) k m = final-known (written s f g)
conclude-known s (Ok f) (Err e) k m = m
conclude-known s (Err e) w k m = k
