-- The whole text: the left side, the relation, the right side and the end, against the parser.
use mathlib.Core.Path.{◌≡◌, refl, ap, sym, ◌∙◌}
use mathlib.Core.Bool.{true, false}
use mathlib.Core.List.{List, [], ◌∷◌}
use Prim.Native.Nat.{ℕ, ◌+◌, ◌*◌}
use native.Mathlib.Omega.{arith}
use lib.Dec.{eqb}
use lib.ListN.{length}
use borrow.Author.Tests.{eqb-true, eqb-false, ne_eqb}
use Rattle.std.proofs.Common.{ok_or}
use Rattle.std.specs.Result.{result_ok}
use Rattle.std.specs.Prelude.{Option, Some, None, Result, Err}
use Rattle.std.specs.Borrow.{Bor}
use Rattle.scanning.specs.Bytes.{first, tail}
use Rattle.forms.specs.declared.Flaw.{Flaw}
use Rattle.forms.specs.declared.Flaw.TheVariants.{Text}
use Rattle.forms.specs.declared.Sense.{Sense}
use Rattle.forms.specs.declared.Sense.TheVariants.{AtMost, AtLeast}
use Rattle.forms.specs.Value.{Value, Typed, conclude, no_rule}
use Rattle.language.specs.Grammar.{Side, Relation, Rule, at_most, at_least}
use Rattle.language.specs.Value.{sense_of, value_side, value_rule}
use Rattle.language.specs.Parser.{Parsed, fail, got, bind, lead, skip, beyond, side_of, ended, right_of, relation_of, parse, judged}
use Rattle.language.proofs.Rules.{rule, right-got, right-none, right-other, relation-most, relation-least, relation-other}
use Rattle.typed_rules.specs.Promises.{Step, valued, view, ReadsSide, JudgesRight, Judges}
use Rattle.typed_rules.proofs.Parsed.{inv_got, inv_fail}
use Rattle.typed_rules.proofs.Rests.{Item, next-is, other, beyond-is}

pub side-of : (text : List ℕ) (r : Step) → ReadsSide text 8 r → valued value_side (side_of text) ≡ view r
unfolding side_of
side-of text r f = f.same (3 * length text + 3) (omega arith)

-- what was not there turned the text back
pub not_there : {A : Type 0} {o : Option A} {r : Result A Flaw} {e : Flaw} →
    r ≡ ok_or o Text →
    o ≡ result_ok r →
    r ≡ Err e →
    (o ≡ None) × (e ≡ Text)
not_there {A} {o} {r} {e} p q z =
    let n : o ≡ None = q ∙ ap result_ok z in
    let k : ◌≡◌ {A = Result A Flaw} (Err e) (Err Text) = sym z ∙ p ∙ ap (λ (u : Option A). ok_or u Text) n in
    (n, cc)

-- ---- the right side

ended_here : (q : List ℕ) (r : Rule) → eqb (length q) 0 ≡ true → ended q r ≡ got r []
ended_here [] r e = refl
ended_here (b ∷ q) r e = absurd (let h : length (b ∷ q) ≡ 0 = eqb-true (length (b ∷ q)) 0 e in omega arith)

ended_more : (q : List ℕ) (r : Rule) → eqb (length q) 0 ≡ false → ended q r ≡ fail
ended_more [] r e = absurd (eqb-false 0 0 e refl)
ended_more (b ∷ q) r e = refl

module _ (text : List ℕ) (y : first text ≡ 61) {l : List ℕ} (t : l ≡ tail text) {s : Step} (f : ReadsSide l 8 s) where
  -- a right side of the value w, with the text after its spaces
  right-reads : {w : Value} {m : Bor (List ℕ)} →
      s ≡ Some (w, m) →
      (a : Side) (i : ℕ) (k : Relation) →
      (z : Side) × (right_of a i k text ≡ ended (skip m.now) (rule a i k z (lead m.now))) × (value_side z ≡ w)
  right-reads {m = m} g a i k =
      let z = inv_got value_side (side_of l) (side-of l s f ∙ ap view g) in
      (z.0, right-got a i k text z.0 m.now y (ap side_of (sym t) ∙ z.1), z.2)

  pub right-more : {sense : Sense} {v w : Value} {m : Bor (List ℕ)} {q : List ℕ} →
      s ≡ Some (w, m) →
      q ≡ skip m.now →
      eqb (length q) 0 ≡ false →
      JudgesRight text sense v (no_rule Text)
  right-more {m = m} {q = q} g h e =
      record {
        same = λ a i k _ _.
            let z = right-reads g a i k in
            let r = rule a i k z.0 (lead m.now) in
            sym (ap judged (z.1 ∙ ap (λ (d : List ℕ). ended d r) (sym h) ∙ ended_more q r e));
      }

  pub right-ends : {sense : Sense} {v w : Value} {m : Bor (List ℕ)} {q : List ℕ} {d : Typed} →
      s ≡ Some (w, m) →
      q ≡ skip m.now →
      eqb (length q) 0 ≡ true →
      d ≡ conclude sense v w →
      JudgesRight text sense v d
  unfolding value_rule
  right-ends {v = v} {w = w} {m = m} {q = q} g h e c =
      record {
        same = λ a i k p o.
            let z = right-reads g a i k in
            let r = rule a i k z.0 (lead m.now) in
            c
            ∙ ap (λ (n : Sense). conclude n v w) (sym o)
            ∙ ap (λ (u : Value). conclude (sense_of k) u w) (sym p)
            ∙ ap (conclude (sense_of k) (value_side a)) (sym z.2)
            ∙ sym (ap judged (z.1 ∙ ap (λ (d : List ℕ). ended d r) (sym h) ∙ ended_here q r e));
      }

  pub right_fails : {sense : Sense} {v : Value} → s ≡ None → JudgesRight text sense v (no_rule Text)
  right_fails g =
      record {
        same = λ a i k _ _.
            sym (ap judged (right-none a i k text y (ap side_of (sym t) ∙ inv_fail value_side (side_of l) (side-of l s f ∙ ap view g))));
      }

pub right_no : {sense : Sense} {v : Value} (text : List ℕ) {b : ℕ} → b ≡ first text → (b ≡ 61 → ⊥) → JudgesRight text sense v (no_rule Text)
right_no text {b} x e =
    record { same = λ a i k _ _. sym (ap judged (right-other a i k text (ap (λ (z : ℕ). eqb z 61) (sym x) ∙ ne_eqb b 61 e))) }

-- ---- the relation

module _ {text i : List ℕ} {b : ℕ} {v : Value} (x : Item text i b) where
  judges : (k : Relation) {l : List ℕ} {t : Typed} →
      ((a : Side) → relation_of a text ≡ right_of a (lead text) k (beyond text)) →
      l ≡ tail i →
      JudgesRight l (sense_of k) v t →
      Judges text v t
  judges k f h j =
      record {
        same = λ a y.
            j.same a (lead text) k y refl
            ∙ ap (λ (s : List ℕ). judged (right_of a (lead text) k s)) (beyond-is x h)
            ∙ sym (ap judged (f a));
      }

  pub judges-most : {l : List ℕ} {t : Typed} →
      b ≡ 60 →
      l ≡ tail i →
      JudgesRight l AtMost v t →
      Judges text v t
  judges-most e = judges at_most (λ a. relation-most a text (next-is x ∙ e))

  pub judges-least : {l : List ℕ} {t : Typed} →
      b ≡ 62 →
      l ≡ tail i →
      JudgesRight l AtLeast v t →
      Judges text v t
  judges-least e = judges at_least (λ a. relation-least a text (next-is x ∙ e))

  pub judges-other : (b ≡ 60 → ⊥) → (b ≡ 62 → ⊥) → Judges text v (no_rule Text)
  judges-other p q = record { same = λ a y. sym (ap judged (relation-other a text (other x 60 p) (other x 62 q))) }

-- ---- the whole

pub text-got : {text : List ℕ} {s : Step} {v : Value} {m : Bor (List ℕ)} {t : Typed} →
    s ≡ Some (v, m) →
    ReadsSide text 8 s →
    Judges m.now v t →
    t ≡ judged (parse text)
unfolding parse
text-got {text} {s} g f j =
    let z = inv_got value_side (side_of text) (side-of text s f ∙ ap view g) in
    j.same z.0 z.2 ∙ sym (ap (λ (p : Parsed Side). judged (bind p (λ a r. relation_of a r))) z.1)

pub text_fails : {text : List ℕ} {s : Step} →
    s ≡ None →
    ReadsSide text 8 s →
    no_rule Text ≡ judged (parse text)
unfolding parse
text_fails {text} {s} g f =
    let z = inv_fail value_side (side_of text) (side-of text s f ∙ ap view g) in
    sym (ap (λ (p : Parsed Side). judged (bind p (λ a r. relation_of a r))) z)
