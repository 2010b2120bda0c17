-- What the operations on values are: a form a·x + b·y + c, or the flaw, a product's or a size's, of the first number or operation
-- concerned: the left operand, then the right operand, then the operation itself, a product's flaw before a size's. Of two sides: the
-- left, then the right, then the final a, b and c.
use Rattle.std.specs.Prelude.{Bool, ◌&&◌, cond, ℕ, leb, ℤ, pos, nat_abs, ◌+ℤ◌, ◌-ℤ◌, ◌*ℤ◌, Result, Ok, Err}
use Rattle.answers.specs.declared.Refusal.{Refusal}
use Rattle.answers.specs.Refusal.{refusal}
use Rattle.forms.specs.declared.Form.{Form}
use Rattle.forms.specs.declared.Flaw.{Flaw}
use Rattle.forms.specs.declared.Flaw.TheVariants.{Text, Product, Size, Other}
use Rattle.forms.specs.declared.Sense.{Sense}
use Rattle.forms.specs.declared.Sense.TheVariants.{AtMost, AtLeast}
use Rattle.forms.specs.declared.Written.{Written}

-- a part of a text comes to a form or a flaw, and a whole text to a rule or a flaw
abbrev pub Value : Type 0
Value = Result Form Flaw

abbrev pub Typed : Type 0
Typed = Result (Written Sense) Flaw

-- the number of a flaw's refusal: another flaw's is the one that its maker gave it
abbrev pub number_of : Flaw → ℕ
number_of Text = 13
number_of Product = 14
number_of Size = 15
number_of (Other n) = n

-- the refusal of a text for its flaw; it names no record
abbrev pub refusal_of : Flaw → Refusal
refusal_of e = refusal (number_of e) 0

-- at most n, either way
abbrev pub inside : ℕ → ℤ → Bool
inside n z = leb (nat_abs z) n

abbrev pub limit : ℕ
limit = 1000000000

abbrev pub form : ℤ → ℤ → ℤ → Form
form a b c = record { a = a; b = b; c = c }

-- the coefficients at most n either way, the constant at most m
abbrev pub bounded : ℕ → ℕ → Form → Bool
bounded n m f = inside n f.a && (inside n f.b && inside m f.c)

-- a form whose numbers are at most 1,000,000,000 either way, else the flaw of its size
unfoldable pub limited : Form → Value
limited f = cond (bounded limit limit f) (Ok f) (Err Size)

unfoldable pub numeral : ℕ → Value
numeral n = cond (leb n limit) (Ok (form (pos 0) (pos 0) (pos n))) (Err Size)

-- ---- operations on forms

abbrev pub add_forms : Form → Form → Form
add_forms f g = form (f.a +ℤ g.a) (f.b +ℤ g.b) (f.c +ℤ g.c)

abbrev pub sub_forms : Form → Form → Form
sub_forms f g = form (f.a -ℤ g.a) (f.b -ℤ g.b) (f.c -ℤ g.c)

-- the product of two forms of which one is a constant
abbrev pub mul_forms : Form → Form → Form
mul_forms f g = form (f.a *ℤ g.c +ℤ f.c *ℤ g.a) (f.b *ℤ g.c +ℤ f.c *ℤ g.b) (f.c *ℤ g.c)

-- both coefficients are zero
unfoldable pub constant : Form → Bool
constant f = inside 0 f.a && inside 0 f.b

unfoldable pub multiplied : Form → Form → Value
multiplied f g = cond (constant f) (limited (mul_forms f g)) (cond (constant g) (limited (mul_forms f g)) (Err Product))

abbrev pub neg_form : Form → Form
neg_form f = form (pos 0 -ℤ f.a) (pos 0 -ℤ f.b) (pos 0 -ℤ f.c)

-- ---- operations on values

-- the left operand's flaw, else the right one's, else the operation
abbrev pub after : (Form → Value) → Value → Value
after op (Ok f) = op f
after op (Err e) = Err e

abbrev pub combine : (Form → Form → Value) → Value → Value → Value
combine op l r = after (λ f. after (λ g. op f g) r) l

unfoldable pub negated : Value → Value
negated v = after (λ f. Ok (neg_form f)) v

unfoldable pub sum : Value → Value → Value
sum l r = combine (λ f g. limited (add_forms f g)) l r

unfoldable pub difference : Value → Value → Value
difference l r = combine (λ f g. limited (sub_forms f g)) l r

unfoldable pub product : Value → Value → Value
product l r = combine multiplied l r

-- an operand: the operations take any, and refuse a form beyond the limit as they refuse a number beyond it. One within it is as it is
-- (`held_small`).
unfoldable pub held : Value → Value
held v = after limited v

-- ---- rules

-- document 01's numbers of the two relations
abbrev pub kind_of : Sense → ℕ
kind_of AtMost = 1
kind_of AtLeast = 2

-- no rule, for that flaw; K is the type of what is given as the relation, which is `Sense` where a text is read
abbrev pub no_rule : {K : Type 0} → Flaw → Result (Written K) Flaw
no_rule e = Err e

-- a and b are the left coefficients less the right, c the right constant less the left
abbrev pub written : {K : Type 0} → K → Form → Form → Written K
written k f g = record { sense = k; a = f.a -ℤ g.a; b = f.b -ℤ g.b; c = g.c -ℤ f.c }

-- a and b at most 32,767 and c at most 1,000,000,000 either way, else the flaw of their size
unfoldable pub final : {K : Type 0} → Written K → Result (Written K) Flaw
final w = cond (bounded 32767 limit (form w.a w.b w.c)) (Ok w) (no_rule Size)

abbrev pub then : {K : Type 0} → (Form → Result (Written K) Flaw) → Value → Result (Written K) Flaw
then op (Ok f) = op f
then op (Err e) = no_rule e

unfoldable pub conclude : {K : Type 0} → K → Value → Value → Result (Written K) Flaw
conclude k l r = then (λ f. then (λ g. final (written k f g)) r) l
