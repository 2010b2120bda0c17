-- The steps that lines ask for: each from what its parts were read as.
use mathlib.Core.Path.{◌≡◌, ap, ap₂, sym, ◌∙◌, subst}
use mathlib.Core.Bool.{Bool, true, false, cond, ◌&&◌}
use mathlib.Core.List.{List}
use Prim.Native.Nat.{ℕ}
use lib.Dec.{eqb, leb}
use lib.ListN.{length}
use lib.IntN.{ℤ}
use borrow.Author.Tests.{eq-eqb, ne_eqb}
use mir.Syntax.{w16, w32}
use mir.Val.{to_z, of_z}
use Rattle.records.specs.declared.Rule.{Rule}
use Rattle.std.specs.Prelude.{Option, Some, None, Ok, Err}
use Rattle.answers.specs.declared.Refusal.{Refusal}
use Rattle.forms.specs.declared.Flaw.{Flaw}
use Rattle.forms.specs.declared.Flaw.TheVariants.{Text}
use Rattle.forms.specs.declared.Sense.{Sense}
use Rattle.forms.specs.declared.Written.{Written}
use Rattle.forms.specs.Value.{Typed, refusal_of, no_rule}
use Rattle.language.specs.Grammar as grammar
use Rattle.language.specs.Value.{value_rule}
use Rattle.scanning.specs.Bytes.{first}
use Rattle.language.specs.Parser.{Parsed, fail, got, parse, judged, answer}
use Rattle.language.proofs.Refusals.{InRange, Sound, value-sound}
use Rattle.session_lines.specs.declared.numbers.Number.{Number}
use Rattle.session_lines.specs.declared.Asked.{Asked}
use Rattle.session_lines.specs.declared.Asked.TheVariants.{Begin, Add, Turn}
use Rattle.session_lines.specs.Fields.{number_in, past_field, fits, value_of, size_of, signed_in, unsigned_in}
use Rattle.session_lines.specs.Lines.{sixteens, begun_of, ended, start_in, rule_of, rule_in, written_of, read_as, typed_of, typed_in}
use Rattle.session_lines.specs.Asked.{Finds}
use Rattle.session_lines.proofs.Signs.{given, missing, kept16, kept32}

-- ---- the end of a text

pub at-end : {l rest : List ℕ} {a b : Option Asked} → l ≡ rest → eqb (length l) 0 ≡ true → a ≡ b → a ≡ ended rest b
at-end {b = b} g e q = q ∙ sym (ap (λ (t : Bool). cond t b None) (ap (λ (z : List ℕ). eqb (length z) 0) (sym g) ∙ e))

pub before-end : {l rest : List ℕ} (b : Option Asked) → l ≡ rest → eqb (length l) 0 ≡ false → None ≡ ended rest b
before-end b g e = sym (ap (λ (t : Bool). cond t b None) (ap (λ (z : List ℕ). eqb (length z) 0) (sym g) ∙ e))

-- ---- fields one after the other

-- a field that begins where another text ends
pub then : {m l r : List ℕ} {n : Option Number} → m ≡ l → Finds m n r → Finds l n r
then {r = r} {n = n} e f = subst (λ (z : List ℕ). Finds z n r) e f

module _ (s : List ℕ) {p q lx ly : Option Number} {k l m o : List ℕ} (f : Finds s p k) (g : Finds k q l) (h : Finds l lx m)
    (i : Finds m ly o) where
  pub start-read : eqb (length o) 0 ≡ true →
      {a : Option Asked} →
      a ≡ begun_of p q lx ly →
      a ≡ start_in s
  unfolding start_in
  start-read e z =
      let g' = then f.rest g in
      let h' = then g'.rest h in
      let i' = then h'.rest i in
      at-end i'.rest e (z ∙ (λ j. begun_of (f.number j) (g'.number j) (h'.number j) (i'.number j)))

  pub start-other : eqb (length o) 0 ≡ false → None ≡ start_in s
  unfolding start_in
  start-other e = before-end _ (then (then (then f.rest g).rest h).rest i).rest e

module _ (s : List ℕ) {kind a b c label : Option Number} {k l m n o : List ℕ} (f : Finds s kind k) (g : Finds k a l)
    (h : Finds l b m) (i : Finds m c n) (j : Finds n label o) where
  pub rule-read : eqb (length o) 0 ≡ true →
      {x : Option Asked} →
      x ≡ rule_of kind a b c label →
      x ≡ rule_in s
  unfolding rule_in
  rule-read e z =
      let g' = then f.rest g in
      let h' = then g'.rest h in
      let i' = then h'.rest i in
      let j' = then i'.rest j in
      at-end j'.rest e (z ∙ (λ t. rule_of (f.number t) (g'.number t) (h'.number t) (i'.number t) (j'.number t)))

  pub rule-other : eqb (length o) 0 ≡ false → None ≡ rule_in s
  unfolding rule_in
  rule-other e = before-end _ (then (then (then (then f.rest g).rest h).rest i).rest j).rest e

-- ---- numbers in range

abbrev begun_by : Option Number → Option Number → Option Number → Option Number → Bool → Bool → Bool → Bool → Option Asked
begun_by p q lx ly s t u v =
    cond ((s && t) && (u && v)) (Some (Begin (record { p = value_of p; q = value_of q; lx = value_of lx; ly = value_of ly }))) None

module _ (p q lx ly : Option Number) {a : Option ℤ} (f : a ≡ signed_in 32768 32767 p) where
  pub begun_1 : a ≡ None → None ≡ begun_of p q lx ly
  unfolding begun_of
  begun_1 e =
      let z = missing (sixteens p) (value_of p) f e in
      sym (ap (λ s. begun_by p q lx ly s (sixteens q) (sixteens lx) (sixteens ly)) z)

  module _ {x : ℤ} (x-is : a ≡ Some x) {b : Option ℤ} (g : b ≡ signed_in 32768 32767 q) where
    one : (sixteens p ≡ true) × (x ≡ value_of p)
    one = given (sixteens p) (value_of p) f x-is

    pub begun_2 : b ≡ None → None ≡ begun_of p q lx ly
    unfolding begun_of
    begun_2 e =
        let z = missing (sixteens q) (value_of q) g e in
        sym (λ i. begun_by p q lx ly (one.0 i) (z i) (sixteens lx) (sixteens ly))

    module _ {y : ℤ} (y-is : b ≡ Some y) {c : Option ℤ} (h : c ≡ signed_in 32768 32767 lx) where
      two : (sixteens q ≡ true) × (y ≡ value_of q)
      two = given (sixteens q) (value_of q) g y-is

      pub begun_3 : c ≡ None → None ≡ begun_of p q lx ly
      unfolding begun_of
      begun_3 e =
          let z = missing (sixteens lx) (value_of lx) h e in
          sym (λ i. begun_by p q lx ly (one.0 i) (two.0 i) (z i) (sixteens ly))

      module _ {z : ℤ} (z-is : c ≡ Some z) {d : Option ℤ} (k : d ≡ signed_in 32768 32767 ly) where
        three : (sixteens lx ≡ true) × (z ≡ value_of lx)
        three = given (sixteens lx) (value_of lx) h z-is

        pub begun_4 : d ≡ None → None ≡ begun_of p q lx ly
        unfolding begun_of
        begun_4 e =
            let m = missing (sixteens ly) (value_of ly) k e in
            sym (λ i. begun_by p q lx ly (one.0 i) (two.0 i) (three.0 i) (m i))

        pub begun-read : {w : ℤ} →
            d ≡ Some w →
            Some (Begin (record {
              p = to_z w16 (of_z w16 x);
              q = to_z w16 (of_z w16 y);
              lx = to_z w16 (of_z w16 z);
              ly = to_z w16 (of_z w16 w);
            })) ≡ begun_of p q lx ly
        unfolding begun_of
        begun-read e =
            let four = given (sixteens ly) (value_of ly) k e in
            (λ i. Some (Begin (record {
              p = kept16 p f x-is i;
              q = kept16 q g y-is i;
              lx = kept16 lx h z-is i;
              ly = kept16 ly k e i;
            })))
            ∙ sym (λ i. begun_by p q lx ly (one.0 i) (two.0 i) (three.0 i) (four.0 i))

abbrev ruled_by : Option Number → Option Number → Option Number → Option Number → Option Number →
    Bool → Bool → Bool → Bool → Bool → Option Asked
ruled_by kind a b c label s t u v w =
    cond ((s && t && u) && (v && w))
    (Some (Add (record { kind = size_of kind; a = value_of a; b = value_of b; c = value_of c; label = size_of label }))) None

module _ (kind a b c label : Option Number) {oa : Option ℤ} (f : oa ≡ signed_in 32768 32767 a) where
  pub ruled_1 : oa ≡ None → None ≡ rule_of kind a b c label
  unfolding rule_of
  ruled_1 e =
      let m = missing (sixteens a) (value_of a) f e in
      sym (ap (λ s. ruled_by kind a b c label s (sixteens b) (fits 2147483648 2147483647 c) (fits 0 255 kind) (fits 0 65535 label)) m)

  module _ {x : ℤ} (x-is : oa ≡ Some x) {ob : Option ℤ} (g : ob ≡ signed_in 32768 32767 b) where
    first_is : (sixteens a ≡ true) × (x ≡ value_of a)
    first_is = given (sixteens a) (value_of a) f x-is

    pub ruled_2 : ob ≡ None → None ≡ rule_of kind a b c label
    unfolding rule_of
    ruled_2 e =
        let m = missing (sixteens b) (value_of b) g e in
        sym (λ i. ruled_by kind a b c label (first_is.0 i) (m i) (fits 2147483648 2147483647 c) (fits 0 255 kind) (fits 0 65535 label))

    module _ {y : ℤ} (y-is : ob ≡ Some y) {oc : Option ℤ} (h : oc ≡ signed_in 2147483648 2147483647 c) where
      second_is : (sixteens b ≡ true) × (y ≡ value_of b)
      second_is = given (sixteens b) (value_of b) g y-is

      pub ruled_3 : oc ≡ None → None ≡ rule_of kind a b c label
      unfolding rule_of
      ruled_3 e =
          let m = missing (fits 2147483648 2147483647 c) (value_of c) h e in
          sym (λ i. ruled_by kind a b c label (first_is.0 i) (second_is.0 i) (m i) (fits 0 255 kind) (fits 0 65535 label))

      module _ {z : ℤ} (z-is : oc ≡ Some z) {ok : Option ℕ} (k : ok ≡ unsigned_in 255 kind) where
        third_is : (fits 2147483648 2147483647 c ≡ true) × (z ≡ value_of c)
        third_is = given (fits 2147483648 2147483647 c) (value_of c) h z-is

        pub ruled_4 : ok ≡ None → None ≡ rule_of kind a b c label
        unfolding rule_of
        ruled_4 e =
            let m = missing (fits 0 255 kind) (size_of kind) k e in
            sym (λ i. ruled_by kind a b c label (first_is.0 i) (second_is.0 i) (third_is.0 i) (m i) (fits 0 65535 label))

        module _ {n : ℕ} (n-is : ok ≡ Some n) {ol : Option ℕ} (l : ol ≡ unsigned_in 65535 label) where
          fourth_is : (fits 0 255 kind ≡ true) × (n ≡ size_of kind)
          fourth_is = given (fits 0 255 kind) (size_of kind) k n-is

          pub ruled_5 : ol ≡ None → None ≡ rule_of kind a b c label
          unfolding rule_of
          ruled_5 e =
              let m = missing (fits 0 65535 label) (size_of label) l e in
              sym (λ i. ruled_by kind a b c label (first_is.0 i) (second_is.0 i) (third_is.0 i) (fourth_is.0 i) (m i))

          pub ruled-read : {m : ℕ} →
              ol ≡ Some m →
              Some (Add (record {
                kind = n;
                a = to_z w16 (of_z w16 x);
                b = to_z w16 (of_z w16 y);
                c = to_z w32 (of_z w32 z);
                label = m;
              })) ≡ rule_of kind a b c label
          unfolding rule_of
          ruled-read e =
              let fifth_is = given (fits 0 65535 label) (size_of label) l e in
              (λ i. Some (Add (record {
                kind = fourth_is.1 i;
                a = kept16 a f x-is i;
                b = kept16 b g y-is i;
                c = kept32 c h z-is i;
                label = fifth_is.1 i;
              })))
              ∙ sym (λ i. ruled_by kind a b c label (first_is.0 i) (second_is.0 i) (third_is.0 i) (fourth_is.0 i) (fifth_is.0 i))

-- ---- a label and a text

module _ (s : List ℕ) {m : Option Number} {l : List ℕ} (f : Finds s m l) {o : Option ℕ} (fitting : o ≡ unsigned_in 65535 m) where
  told : o ≡ unsigned_in 65535 (number_in s)
  told = fitting ∙ ap (unsigned_in 65535) f.number

  typed_by : Bool → Bool → Option Asked
  typed_by t u = cond (t && u) (Some (typed_of (size_of (number_in s)) (past_field s))) None

  module _ {n b : ℕ} (e : o ≡ Some n) (byte : b ≡ first l) where
    here : b ≡ first (past_field s)
    here = byte ∙ ap first f.rest

    labelled : (fits 0 65535 (number_in s) ≡ true) × (n ≡ size_of (number_in s))
    labelled = given (fits 0 65535 (number_in s)) (size_of (number_in s)) told e

    pub typed-read : b ≡ 32 → {a : Asked} → a ≡ typed_of n l → Some a ≡ typed_in s
    unfolding typed_in typed_by
    typed-read z q =
        let y : eqb (first (past_field s)) 32 ≡ true = eq-eqb (first (past_field s)) 32 (sym here ∙ z) in
        ap Some (q ∙ (λ i. typed_of (labelled.1 i) (f.rest i))) ∙ sym (ap₂ typed_by labelled.0 y)

    pub typed_unspaced : (b ≡ 32 → ⊥) → None ≡ typed_in s
    unfolding typed_in typed_by
    typed_unspaced z =
        let y : eqb (first (past_field s)) 32 ≡ false = ne_eqb (first (past_field s)) 32 (λ q. z (here ∙ q)) in
        sym (ap₂ typed_by labelled.0 y)

  pub typed_unlabelled : o ≡ None → None ≡ typed_in s
  unfolding typed_in typed_by
  typed_unlabelled e =
      let m = missing (fits 0 65535 (number_in s)) (size_of (number_in s)) told e in
      sym (ap (λ t. typed_by t (eqb (first (past_field s)) 32)) m)

-- ---- what a text reads as

abbrev Ranged : Typed → Type 0
Ranged (Ok w) = InRange w
Ranged (Err x) = Unit {0}

sound : (p : Parsed grammar.Rule) → Ranged (judged p)
sound fail = tt
sound (got r s) = go (value_rule r) (value-sound r)
  where
    go : (t : Typed) → Sound t → Ranged t
    go (Ok w) h = h
    go (Err x) h = tt

answer-ranged : (l : List ℕ) → Ranged (answer l)
unfolding answer
answer-ranged l = go (leb (length l) 120)
  where
    go : (t : Bool) → Ranged (cond t (judged (parse l)) (no_rule Text))
    go true = sound (parse l)
    go false = tt

pub ranged : (l : List ℕ) {t : Typed} {w : Written Sense} → answer l ≡ t → t ≡ Ok w → InRange w
ranged l e f = subst Ranged (e ∙ f) (answer-ranged l)

pub read-rule : (label : ℕ) (l : List ℕ) {t : Typed} {w : Written Sense} {r : Rule} →
    t ≡ answer l →
    t ≡ Ok w →
    r ≡ written_of label w →
    Add r ≡ typed_of label l
unfolding typed_of
read-rule label l e f g = ap Add g ∙ ap (read_as label) (sym f ∙ e)

pub read-refused : (label : ℕ) (l : List ℕ) {t : Typed} {x : Flaw} {r : Refusal} →
    t ≡ answer l →
    t ≡ Err x →
    r ≡ refusal_of x →
    Turn r ≡ typed_of label l
unfolding typed_of
read-refused label l e f g = ap Turn g ∙ ap (read_as label) (sym f ∙ e)
