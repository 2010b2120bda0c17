-- The language of document 02, #103, as trees and the texts that they spell. A text is a list of bytes. A tree holds, before each
-- item, the number of spaces there, and a number by its digits, so that a tree spells one text. A sum or product is its part before
-- the last operator, joined with its last operand, so that equals go from the left. `.. rest` below is the text of a tree with `rest`
-- after it.
use Rattle.std.specs.Prelude.{List, [], ◌∷◌, ◌++◌, ℕ, zero, suc, ◌≤◌, length}

mutual
  -- a number, x, y, a minus before a factor, or a side in parentheses
  pub data Factor : Type 0 where
    number : ℕ → List ℕ → Factor
    rate_x : ℕ → Factor
    rate_y : ℕ → Factor
    minus : ℕ → Factor → Factor
    group : ℕ → Side → ℕ → Factor

  -- factors joined by *
  pub data Term : Type 0 where
    factor : Factor → Term
    times : Term → ℕ → Factor → Term

  -- terms joined by + and -
  pub data Side : Type 0 where
    term : Term → Side
    plus : Side → ℕ → Term → Side
    less : Side → ℕ → Term → Side

-- <= and >=
pub data Relation : Type 0 where
  at_most : Relation
  at_least : Relation

-- the left side, the relation after some spaces, the right side, and the spaces at the end
pub record Rule : Type 0 where
  pub left : Side
  pub gap : ℕ
  pub relation : Relation
  pub right : Side
  pub end : ℕ

-- ---- the texts

-- so many spaces
unfoldable pub pad : ℕ → List ℕ → List ℕ
pad zero rest = rest
pad (suc n) rest = 32 ∷ pad n rest

unfoldable mutual
  pub spell_factor : Factor → List ℕ → List ℕ
  spell_factor (number i digits) rest = pad i (digits ++ rest)
  spell_factor (rate_x i) rest = pad i (120 ∷ rest)
  spell_factor (rate_y i) rest = pad i (121 ∷ rest)
  spell_factor (minus i f) rest = pad i (45 ∷ spell_factor f rest)
  spell_factor (group i s j) rest = pad i (40 ∷ spell_side s (pad j (41 ∷ rest)))

  pub spell_term : Term → List ℕ → List ℕ
  spell_term (factor f) rest = spell_factor f rest
  spell_term (times t i f) rest = spell_term t (pad i (42 ∷ spell_factor f rest))

  pub spell_side : Side → List ℕ → List ℕ
  spell_side (term t) rest = spell_term t rest
  spell_side (plus s i t) rest = spell_side s (pad i (43 ∷ spell_term t rest))
  spell_side (less s i t) rest = spell_side s (pad i (45 ∷ spell_term t rest))

unfoldable pub spell_relation : Relation → List ℕ → List ℕ
spell_relation at_most rest = 60 ∷ 61 ∷ rest
spell_relation at_least rest = 62 ∷ 61 ∷ rest

unfoldable pub spell : Rule → List ℕ
spell r = spell_side r.left (pad r.gap (spell_relation r.relation (spell_side r.right (pad r.end []))))

-- ---- lawful trees

-- bytes that are digits
pub data Digits : List ℕ → Type 0 where
  none : Digits []
  more : {d : ℕ} {s : List ℕ} → 48 ≤ d → d ≤ 57 → Digits s → Digits (d ∷ s)

-- 1 to 10 digits
pub record Number (s : List ℕ) : Type 0 where
  pub digits : Digits s
  pub some : 1 ≤ length s
  pub few : length s ≤ 10

-- numbers are lawful, and parentheses nest at most d deep
unfoldable mutual
  pub LawfulFactor : Factor → ℕ → Type 0
  LawfulFactor (number i digits) d = Number digits
  LawfulFactor (rate_x i) d = Unit {0}
  LawfulFactor (rate_y i) d = Unit {0}
  LawfulFactor (minus i f) d = LawfulFactor f d
  LawfulFactor (group i s j) zero = ⊥
  LawfulFactor (group i s j) (suc d) = LawfulSide s d

  pub LawfulTerm : Term → ℕ → Type 0
  LawfulTerm (factor f) d = LawfulFactor f d
  LawfulTerm (times t i f) d = LawfulTerm t d × LawfulFactor f d

  pub LawfulSide : Side → ℕ → Type 0
  LawfulSide (term t) d = LawfulTerm t d
  LawfulSide (plus s i t) d = LawfulSide s d × LawfulTerm t d
  LawfulSide (less s i t) d = LawfulSide s d × LawfulTerm t d

-- a rule of the language: parentheses at most 8 deep, at most 120 bytes
pub record LawfulRule (r : Rule) : Type 0 where
  pub left : LawfulSide r.left 8
  pub right : LawfulSide r.right 8
  pub short : length (spell r) ≤ 120
