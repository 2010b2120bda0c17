-- Values: numbers read back from the machine's bits, forms within the limit, and the operations' cases.
use mathlib.Core.Path.{◌≡◌, refl, ap, sym, ◌∙◌, subst}
use mathlib.Core.Bool.{Bool, true, false, cond, ◌&&◌}
use Prim.Native.Nat.{ℕ, ◌≤◌}
use native.Mathlib.Omega.{arith}
use lib.Dec.{leb}
use lib.IntN.{ℤ, pos, nat_abs, neg_ℤ, ◌+ℤ◌, ◌-ℤ◌, ◌*ℤ◌, +ℤ_idl, +ℤ_idr}
use mir.Syntax.{w64}
use mir.Val.{SFits}
use mir.Facts.{to_z-of_z}
use borrow.Author.Tests.{leb-true, le-leb}
use Rattle.ints.specs.Within.{Within}
use Rattle.ints.proofs.Machine.{within-fits, within-add, within-sub, within-mul, within_neg, within_nat, within-numeral}
use Rattle.ints.proofs.Bits.{read}
use Rattle.forms.specs.declared.Form.{Form}
use Rattle.std.specs.Prelude.{Result, Ok, Err}
use Rattle.forms.specs.declared.Flaw.{Flaw}
use Rattle.forms.specs.declared.Flaw.TheVariants.{Size}
use Rattle.forms.specs.declared.Written.{Written}
use Rattle.forms.specs.Value.{Value, inside, bounded, limit, form, limited, numeral, neg_form, constant, combine, written, final, conclude, no_rule}
use Rattle.forms.specs.Small.{SmallForm, SmallForms, Small, Pair, pair_of, SmallIn, Paired, Valued}

-- ---- numbers

pub inside_is : (n : ℕ) (z : ℤ) (m : ℕ) → SFits w64 z → m ≡ nat_abs (read z) → leb m n ≡ inside n z
inside_is n z m f e = ap (λ (k : ℕ). leb k n) (e ∙ ap nat_abs (to_z-of_z {w = w64} f))

-- the same of a test of a number that was read back
pub inside-read : (n : ℕ) (z : ℤ) {t : Bool} → SFits w64 z → t ≡ inside n (read z) → t ≡ inside n z
inside-read n z f e = e ∙ ap (inside n) (to_z-of_z {w = w64} f)

small-fits : {z : ℤ} → Within limit z → SFits w64 z
small-fits h = within-fits h tt

-- an operation on numbers that were read back
two_is : (op : ℤ → ℤ → ℤ) {y z r : ℤ} →
    Within limit y →
    Within limit z →
    SFits w64 (op y z) →
    r ≡ op (read y) (read z) →
    read r ≡ op y z
two_is op {y} {z} {r} h k f e =
    let g : r ≡ op y z = e ∙ ap (λ (t : ℤ). op t (read z)) (to_z-of_z {w = w64} (small-fits h))
    ∙ ap (op y) (to_z-of_z {w = w64} (small-fits k)) in
    ap read g ∙ to_z-of_z {w = w64} f

pub add_is : {y z r : ℤ} → Within limit y → Within limit z → r ≡ read y +ℤ read z → read r ≡ y +ℤ z
add_is h k e = two_is ◌+ℤ◌ h k (within-fits (within-add h k) tt) e

pub sub_is : {y z r : ℤ} → Within limit y → Within limit z → r ≡ read y -ℤ read z → read r ≡ y -ℤ z
sub_is h k e = two_is ◌-ℤ◌ h k (within-fits (within-sub h k) tt) e

pub cross-is : {p q s t r : ℤ} →
    Within limit p →
    Within limit q →
    Within limit s →
    Within limit t →
    r ≡ read p *ℤ read q +ℤ read s *ℤ read t →
    read r ≡ p *ℤ q +ℤ s *ℤ t
cross-is {p} {q} {s} {t} {r} hp hq hs ht e =
    let g : r ≡ p *ℤ q +ℤ s *ℤ t =
    e ∙ ap (λ (z : ℤ). z *ℤ read q +ℤ read s *ℤ read t) (to_z-of_z {w = w64} (small-fits hp))
    ∙ ap (λ (z : ℤ). p *ℤ z +ℤ read s *ℤ read t) (to_z-of_z {w = w64} (small-fits hq))
    ∙ ap (λ (z : ℤ). p *ℤ q +ℤ z *ℤ read t) (to_z-of_z {w = w64} (small-fits hs))
    ∙ ap (λ (z : ℤ). p *ℤ q +ℤ s *ℤ z) (to_z-of_z {w = w64} (small-fits ht)) in
    ap read g ∙ to_z-of_z {w = w64} (within-fits (within-add (within-mul hp hq) (within-mul hs ht)) tt)

-- the same of one product, beside a product of zeros
pub product_is : {y z r : ℤ} →
    Within limit y →
    Within limit z →
    r ≡ read y *ℤ read z +ℤ read (pos 0) *ℤ read (pos 0) →
    read r ≡ y *ℤ z
product_is {y} {z} h k e = cross-is {s = pos 0} {t = pos 0} h k (within-numeral tt) (within-numeral tt) e ∙ +ℤ_idr (y *ℤ z)

pub within-opposite : {z : ℤ} → Within limit z → Within limit (pos 0 -ℤ z)
within-opposite {z} h = subst (λ (y : ℤ). Within limit y) (sym (+ℤ_idl (neg_ℤ z))) (within_neg h)

-- a difference that was handed back, and is read again
pub less-is : {y z r : ℤ} → Within limit y → Within limit z → r ≡ y -ℤ z → read r ≡ y -ℤ z
less-is h k e = ap read e ∙ to_z-of_z {w = w64} (within-fits (within-sub h k) tt)

-- ---- tests joined by "and"

pub and_last : {s t u : Bool} → s ≡ true → t ≡ u → t ≡ s && u
and_last {s} {t} {u} e f = f ∙ sym (ap (λ (b : Bool). b && u) e)

pub and_first : {s t : Bool} (u : Bool) → t ≡ s → t ≡ false → t ≡ s && u
and_first {s} {t} u e f = f ∙ sym (ap (λ (b : Bool). b && u) (sym e ∙ f))

and-true : (s : Bool) → s && true ≡ s
and-true true = refl
and-true false = refl

both : (s t : Bool) → s && t ≡ true → (s ≡ true) × (t ≡ true)
both true t e = (refl, e)
both false t e = absurd (let z : ◌≡◌ {A = ℕ} 0 1 = cc in omega arith)

-- ---- forms

pub form-is : {a a' b b' c c' : ℤ} → a ≡ a' → b ≡ b' → c ≡ c' → form a b c ≡ form a' b' c'
form-is {a} {a'} {b} {b'} {c} {c'} p q r = ap (λ (x : ℤ). form x b c) p ∙ ap (λ (x : ℤ). form a' x c) q ∙ ap (λ (x : ℤ). form a' b' x) r

within-is : (z : ℤ) → inside limit z ≡ true → Within limit z
within-is z e = record { small = leb-true (nat_abs z) limit e }

pub same-value : {e g r : Value} → e ≡ g → Valued e r → Valued g r
same-value p h = record { same = h.same ∙ p; small = h.small }

pub limited-form : {f g : Form} {r : Value} → f ≡ g → Valued (limited f) r → Valued (limited g) r
limited-form p h = same-value (ap limited p) h

pub limited-yes : (f : Form) {t : Bool} →
    t ≡ bounded limit limit f →
    t ≡ true →
    Valued (limited f) (Ok f)
unfolding limited
limited-yes f e t =
    let all = both (inside limit f.a) (inside limit f.b && inside limit f.c) (sym e ∙ t) in
    let rest = both (inside limit f.b) (inside limit f.c) all.1 in
    record {
      same = rw (sym e ∙ t);
      small = record { a = within-is f.a all.0; b = within-is f.b rest.0; c = within-is f.c rest.1 };
    }

pub limited_no : (f : Form) {t : Bool} →
    t ≡ bounded limit limit f →
    t ≡ false →
    Valued (limited f) (Err Size)
unfolding limited
limited_no f e t = record { same = rw (sym e ∙ t); small = tt }

pub numeral-yes : (n : ℕ) (z : ℤ) →
    n ≤ limit →
    z ≡ pos n →
    Valued (numeral n) (Ok (form (pos 0) (pos 0) z))
unfolding numeral
numeral-yes n z h e =
    record {
      same = rw (e, le-leb n limit h);
      small = rw e (record { a = within-numeral tt; b = within-numeral tt; c = within_nat h });
    }

-- the test of a constant, of a form within the limit
pub constant-is : {f : Form} {t : Bool} → SmallForm f → t ≡ bounded 0 limit f → t ≡ constant f
unfolding constant
constant-is {f} h e =
    e
    ∙ ap (λ (u : Bool). inside 0 f.a && (inside 0 f.b && u)) (le-leb (nat_abs f.c) limit h.c.small)
    ∙ ap (λ (u : Bool). inside 0 f.a && u) (and-true (inside 0 f.b))

-- ---- values

pub small-form : {v : Value} {f : Form} → Small v → v ≡ Ok f → SmallForm f
small-form {v} {f} h e = subst Small e h

-- two operands, as a pair

abbrev pub joined : {X : Type 0} → (Form → Form → X) → (Flaw → X) → Pair → X
joined op stop (Ok (f, g)) = op f g
joined op stop (Err e) = stop e

combine-pair : (op : Form → Form → Value) (v w : Value) → combine op v w ≡ joined op Err (pair_of v w)
combine-pair op (Ok f) (Ok g) = refl
combine-pair op (Ok f) (Err e) = refl
combine-pair op (Err e) w = refl

conclude-pair : {K : Type 0} (k : K) (v w : Value) → conclude k v w ≡ joined (λ f g. final (written k f g)) no_rule (pair_of v w)
unfolding conclude
conclude-pair k (Ok f) (Ok g) = refl
conclude-pair k (Ok f) (Err e) = refl
conclude-pair k (Err e) w = refl

module _ {v w : Value} {p : Pair} (x : Paired v w p) where
  pub small_forms : {f g : Form} → p ≡ Ok (f, g) → SmallForms f g
  small_forms e = subst SmallIn e x.small

  pub combined : (op : Form → Form → Value) {q : Pair} {r : Value} →
      p ≡ q →
      Valued (joined op Err q) r →
      Valued (combine op v w) r
  combined op e h = same-value (sym (combine-pair op v w ∙ ap (joined op Err) (sym x.same ∙ e))) h

  pub concluded : {K : Type 0} (k : K) {q : Pair} {r : Result (Written K) Flaw} →
      p ≡ q →
      r ≡ joined (λ f g. final (written k f g)) no_rule q →
      r ≡ conclude k v w
  concluded k e h = h ∙ sym (conclude-pair k v w ∙ ap (joined (λ f g. final (written k f g)) no_rule) (sym x.same ∙ e))

pub refused : {e : Flaw} → Valued (Err e) (Err e)
refused = record { same = refl; small = tt }

pub negated-small : {f g : Form} → SmallForm f → g ≡ neg_form f → SmallForm g
negated-small {f} h e =
    subst SmallForm (sym e) (record { a = within-opposite h.a; b = within-opposite h.b; c = within-opposite h.c })

abbrev writing : {K : Type 0} → K → ℤ → ℤ → ℤ → Written K
writing k a b c = record { sense = k; a = a; b = b; c = c }

pub written_is : {K : Type 0} (k : K) {a a' b b' c c' : ℤ} →
    a ≡ a' →
    b ≡ b' →
    c ≡ c' →
    ◌≡◌ {A = Written K} (record { sense = k; a = a; b = b; c = c }) (record { sense = k; a = a'; b = b'; c = c' })
written_is {K} k {a} {a'} {b} {b'} {c} {c'} p q r =
    ap (λ (x : ℤ). writing k x b c) p ∙ ap (λ (x : ℤ). writing k a' x c) q ∙ ap (λ (x : ℤ). writing k a' b' x) r

-- ---- the final numbers

module _ {K : Type 0} {w w' : Written K} {t : Bool} (p : w ≡ w') (e : t ≡ bounded 32767 limit (form w.a w.b w.c)) where
  pub final-yes : t ≡ true → Ok w ≡ final w'
  unfolding final
  final-yes q =
      subst (λ (x : Written K). Ok w ≡ final x) p (sym (ap (λ (u : Bool). cond u (Ok w) (no_rule Size)) (sym e ∙ q)))

  pub final_no : t ≡ false → no_rule Size ≡ final w'
  unfolding final
  final_no q = subst (λ (x : Written K). no_rule Size ≡ final x) p (sym (ap (λ (u : Bool). cond u (Ok w) (no_rule Size)) (sym e ∙ q)))
