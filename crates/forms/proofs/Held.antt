-- An operand within the limit is as it is, so that of such operands the operations are the plain ones. The readers rest on this.
use mathlib.Core.Path.{◌≡◌, refl, ap, ◌∙◌}
use mathlib.Core.Bool.{Bool, true, cond, ◌&&◌}
use lib.IntN.{ℤ}
use borrow.Author.Tests.{le-leb}
use lib.IntN.{nat_abs}
use Rattle.ints.specs.Within.{Within}
use Rattle.forms.specs.declared.Form.{Form}
use Rattle.std.specs.Prelude.{Ok, Err}
use Rattle.forms.specs.declared.Flaw.TheVariants.{Size}
use Rattle.forms.specs.Value.{Value, inside, limit, limited, bounded, held}
use Rattle.forms.specs.Small.{SmallForm, Small}

pub inside-limit : {z : ℤ} → Within limit z → inside limit z ≡ true
inside-limit {z} h = le-leb (nat_abs z) limit h.small

all-inside : (f : Form) → SmallForm f → bounded limit limit f ≡ true
all-inside f h =
    ap (λ (t : Bool). t && (inside limit f.b && inside limit f.c)) (inside-limit h.a)
    ∙ ap (λ (t : Bool). t && inside limit f.c) (inside-limit h.b)
    ∙ inside-limit h.c

pub held_small : (v : Value) → Small v → held v ≡ v
unfolding held limited
held_small (Ok f) h = ap (λ (t : Bool). cond t (Ok f) (Err Size)) (all-inside f h)
held_small (Err e) h = refl

-- of two operands
pub held_both : {A : Type 0} (op : Value → Value → A) {v w : Value} →
    Small v →
    Small w →
    op (held v) (held w) ≡ op v w
held_both op {v} {w} h k = ap (λ (u : Value). op u (held w)) (held_small v h) ∙ ap (op v) (held_small w k)
