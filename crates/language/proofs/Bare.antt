-- Spaces say nothing: two lawful trees whose texts are equal but for spaces are equal but for spaces, and are answered alike.
use mathlib.Core.Path.{◌≡◌, refl, ap, sym, ◌∙◌}
use mathlib.Core.Bool.{false, cond}
use mathlib.Core.List.{List, [], ◌∷◌, ◌++◌}
use Prim.Native.Nat.{ℕ, zero, suc}
use lib.Dec.{eqb}
use borrow.Author.Tests.{ne_eqb}
use native.Mathlib.Omega.{arith}
use Rattle.language.specs.Grammar.{Factor, Term, Side, Relation, Rule, number, rate_x, rate_y, minus, group, factor, times, term, plus, less, at_most, at_least, pad, spell_factor, spell_term, spell_side, spell_relation, spell, Digits, none, more, LawfulFactor, LawfulTerm, LawfulSide, LawfulRule}
use Rattle.forms.specs.Value.{Value, negated, sum, difference, product, conclude}
use Rattle.language.specs.Value.{value_factor, value_term, value_side, sense_of, value_rule}
use Rattle.language.specs.Parser.{answer}
use Rattle.language.proofs.Complete.{unique-sides}
use Rattle.language.proofs.Language.{answered}

-- ---- a tree and a text without spaces

unfoldable mutual
  pub bare_factor : Factor → Factor
  bare_factor (number i ds) = number 0 ds
  bare_factor (rate_x i) = rate_x 0
  bare_factor (rate_y i) = rate_y 0
  bare_factor (minus i f) = minus 0 (bare_factor f)
  bare_factor (group i a j) = group 0 (bare_side a) 0

  pub bare_term : Term → Term
  bare_term (factor f) = factor (bare_factor f)
  bare_term (times t i f) = times (bare_term t) 0 (bare_factor f)

  pub bare_side : Side → Side
  bare_side (term t) = term (bare_term t)
  bare_side (plus a i t) = plus (bare_side a) 0 (bare_term t)
  bare_side (less a i t) = less (bare_side a) 0 (bare_term t)

abbrev pub bare : Rule → Rule
bare r = record { left = bare_side r.left; gap = 0; relation = r.relation; right = bare_side r.right; end = 0 }

unfoldable pub erase : List ℕ → List ℕ
erase [] = []
erase (b ∷ s) = cond (eqb b 32) (erase s) (b ∷ erase s)

-- ---- the text of a tree without spaces

erase-pad : (i : ℕ) (q : List ℕ) → erase (pad i q) ≡ erase q
unfolding erase pad
erase-pad zero q = refl
erase-pad (suc i) q = erase-pad i q

erase_byte : (b : ℕ) (s : List ℕ) → eqb b 32 ≡ false → erase (b ∷ s) ≡ b ∷ erase s
unfolding erase
erase_byte b s e = rw e

erase-item : (i b : ℕ) (s w : List ℕ) →
    eqb b 32 ≡ false →
    erase s ≡ w →
    erase (pad i (b ∷ s)) ≡ b ∷ w
erase-item i b s w e h = erase-pad i (b ∷ s) ∙ erase_byte b s e ∙ ap (λ (q : List ℕ). b ∷ q) h

erase-digits : (ds r : List ℕ) → Digits ds → erase (ds ++ r) ≡ ds ++ erase r
erase-digits [] r none = refl
erase-digits (b ∷ ds) r (more l u h) =
    erase_byte b (ds ++ r) (ne_eqb b 32 (λ e. absurd (omega (arith, l, e)))) ∙ ap (λ (q : List ℕ). b ∷ q) (erase-digits ds r h)

mutual
  unfolding spell_factor LawfulFactor bare_factor pad

  erase-factor : (f : Factor) (d : ℕ) (r : List ℕ) → LawfulFactor f d → erase (spell_factor f r) ≡ spell_factor (bare_factor f) (erase r)
  erase-factor (number i ds) d r l = erase-pad i (ds ++ r) ∙ erase-digits ds r l.digits
  erase-factor (rate_x i) d r l = erase-item i 120 r (erase r) refl refl
  erase-factor (rate_y i) d r l = erase-item i 121 r (erase r) refl refl
  erase-factor (minus i f) d r l = erase-item i 45 (spell_factor f r) _ refl (erase-factor f d r l)
  erase-factor (group i a j) zero r l = absurd l
  erase-factor (group i a j) (suc d) r l =
      erase-item i 40 (spell_side a (pad j (41 ∷ r))) _ refl
      (erase-side a d (pad j (41 ∷ r)) l ∙ ap (spell_side (bare_side a)) (erase-item j 41 r (erase r) refl refl))

  erase-term : (t : Term) (d : ℕ) (r : List ℕ) → LawfulTerm t d → erase (spell_term t r) ≡ spell_term (bare_term t) (erase r)
  erase-term (factor f) d r l = erase-factor f d r l
  erase-term (times t i f) d r l =
      erase-term t d (pad i (42 ∷ spell_factor f r)) l.0
      ∙ ap (spell_term (bare_term t)) (erase-item i 42 (spell_factor f r) _ refl (erase-factor f d r l.1))

  erase-side : (a : Side) (d : ℕ) (r : List ℕ) → LawfulSide a d → erase (spell_side a r) ≡ spell_side (bare_side a) (erase r)
  erase-side (term t) d r l = erase-term t d r l
  erase-side (plus a i t) d r l =
      erase-side a d (pad i (43 ∷ spell_term t r)) l.0
      ∙ ap (spell_side (bare_side a)) (erase-item i 43 (spell_term t r) _ refl (erase-term t d r l.1))
  erase-side (less a i t) d r l =
      erase-side a d (pad i (45 ∷ spell_term t r)) l.0
      ∙ ap (spell_side (bare_side a)) (erase-item i 45 (spell_term t r) _ refl (erase-term t d r l.1))

erase-relation : (k : Relation) (r : List ℕ) → erase (spell_relation k r) ≡ spell_relation k (erase r)
unfolding erase spell_relation
erase-relation at_most r = refl
erase-relation at_least r = refl

pub bare_spells : (r : Rule) →
    LawfulSide r.left 8 →
    LawfulSide r.right 8 →
    erase (spell r) ≡ spell (bare r)
unfolding spell erase pad
bare_spells r l m =
    erase-side r.left 8 (pad r.gap (spell_relation r.relation (spell_side r.right (pad r.end [])))) l
    ∙ ap (spell_side (bare_side r.left))
    (erase-pad r.gap (spell_relation r.relation (spell_side r.right (pad r.end [])))
    ∙ erase-relation r.relation (spell_side r.right (pad r.end []))
    ∙ ap (spell_relation r.relation)
    (erase-side r.right 8 (pad r.end []) m ∙ ap (spell_side (bare_side r.right)) (erase-pad r.end [])))

-- ---- it is lawful, and its value is the same

mutual
  unfolding LawfulFactor bare_factor

  bare-factor : (f : Factor) (d : ℕ) → LawfulFactor f d → LawfulFactor (bare_factor f) d
  bare-factor (number i ds) d l = l
  bare-factor (rate_x i) d l = tt
  bare-factor (rate_y i) d l = tt
  bare-factor (minus i f) d l = bare-factor f d l
  bare-factor (group i a j) zero l = l
  bare-factor (group i a j) (suc d) l = bare-side a d l

  bare-term : (t : Term) (d : ℕ) → LawfulTerm t d → LawfulTerm (bare_term t) d
  bare-term (factor f) d l = bare-factor f d l
  bare-term (times t i f) d l = (bare-term t d l.0, bare-factor f d l.1)

  bare-side : (a : Side) (d : ℕ) → LawfulSide a d → LawfulSide (bare_side a) d
  bare-side (term t) d l = bare-term t d l
  bare-side (plus a i t) d l = (bare-side a d l.0, bare-term t d l.1)
  bare-side (less a i t) d l = (bare-side a d l.0, bare-term t d l.1)

both : (op : Value → Value → Value) {v w x y : Value} → v ≡ w → x ≡ y → op v x ≡ op w y
both op {w = w} {x = x} e f = ap (λ (z : Value). op z x) e ∙ ap (op w) f

mutual
  unfolding value_factor bare_factor

  worth-factor : (f : Factor) → value_factor (bare_factor f) ≡ value_factor f
  worth-factor (number i ds) = refl
  worth-factor (rate_x i) = refl
  worth-factor (rate_y i) = refl
  worth-factor (minus i f) = ap negated (worth-factor f)
  worth-factor (group i a j) = worth-side a

  worth-term : (t : Term) → value_term (bare_term t) ≡ value_term t
  worth-term (factor f) = worth-factor f
  worth-term (times t i f) = both product (worth-term t) (worth-factor f)

  worth-side : (a : Side) → value_side (bare_side a) ≡ value_side a
  worth-side (term t) = worth-term t
  worth-side (plus a i t) = both sum (worth-side a) (worth-term t)
  worth-side (less a i t) = both difference (worth-side a) (worth-term t)

pub bare-worth : (r : Rule) → value_rule (bare r) ≡ value_rule r
unfolding value_rule
bare-worth r =
    ap (λ (v : Value). conclude (sense_of r.relation) v (value_side (bare_side r.right))) (worth-side r.left)
    ∙ ap (conclude (sense_of r.relation) (value_side r.left)) (worth-side r.right)

-- ---- each text in one way, spaces aside

pub unique-bare : (r q : Rule) →
    LawfulRule r →
    LawfulRule q →
    erase (spell r) ≡ erase (spell q) →
    bare r ≡ bare q
unique-bare r q l m e =
    unique-sides (bare r) (bare q) (bare-side r.left 8 l.left) (bare-side r.right 8 l.right)
    (bare-side q.left 8 m.left) (bare-side q.right 8 m.right)
    (sym (bare_spells r l.left l.right) ∙ e ∙ bare_spells q m.left m.right)

pub answered_alike : (r q : Rule) →
    LawfulRule r →
    LawfulRule q →
    erase (spell r) ≡ erase (spell q) →
    answer (spell r) ≡ answer (spell q)
answered_alike r q l m e =
    answered r l ∙ sym (bare-worth r) ∙ ap value_rule (unique-bare r q l m e) ∙ bare-worth q ∙ sym (answered q m)
