-- The parser as a function of texts: side, term and factor call each other, and the remaining text falls. It hands back the tree that
-- it read. A call takes one unit of fuel, of which three for each byte and three more are enough.
use Rattle.std.specs.Prelude.{cond, List, [], ◌∷◌, ℕ, zero, suc, ◌+◌, ◌*◌, leb, eqb, length}
use Rattle.scanning.specs.Bytes.{first, tail, digit, run, past}
use Rattle.forms.specs.declared.Flaw.TheVariants.{Text}
use Rattle.language.specs.Grammar.{Factor, Term, Side, Relation, Rule, number, rate_x, rate_y, minus, group, factor, times, term, plus, less, at_most, at_least}
use Rattle.forms.specs.Value.{Typed, no_rule}
use Rattle.language.specs.Value.{value_rule}

-- what was read, with the text after it
pub data Parsed (A : Type 0) : Type 0 where
  fail : Parsed A
  got : A → List ℕ → Parsed A

abbrev pub bind : {A B : Type 0} → Parsed A → (A → List ℕ → Parsed B) → Parsed B
bind fail f = fail
bind (got a r) f = f a r

-- ---- spaces: how many there are, and the text after them

unfoldable pub lead : List ℕ → ℕ
lead [] = 0
lead (b ∷ s) = cond (eqb b 32) (suc (lead s)) 0

unfoldable pub skip : List ℕ → List ℕ
skip [] = []
skip (b ∷ s) = cond (eqb b 32) (skip s) (b ∷ s)

-- ---- a number of at most ten digits

abbrev pub number_at : ℕ → List ℕ → Parsed Factor
number_at i s = cond (leb (length (run s)) 10) (got (number i (run s)) (past s)) fail

-- ---- the next item: its first byte, and the text after that

abbrev pub next : List ℕ → ℕ
next s = first (skip s)

abbrev pub beyond : List ℕ → List ℕ
beyond s = tail (skip s)

-- one level of parentheses less, if there is one
abbrev pub inner : ℕ → (ℕ → Parsed Side) → Parsed Side
inner zero f = fail
inner (suc d) f = f d

abbrev pub closed : ℕ → Side → List ℕ → Parsed Factor
closed i a r = cond (eqb (next r) 41) (got (group i a (lead r)) (beyond r)) fail

unfoldable mutual
  pub factor_by : ℕ → ℕ → List ℕ → Parsed Factor
  factor_by zero d s = fail
  factor_by (suc k) d s =
      cond (digit (next s)) (number_at (lead s) (skip s))
      (cond (eqb (next s) 120) (got (rate_x (lead s)) (beyond s))
      (cond (eqb (next s) 121) (got (rate_y (lead s)) (beyond s))
      (cond (eqb (next s) 45) (bind (factor_by k d (beyond s)) (λ f r. got (minus (lead s) f) r))
      (cond (eqb (next s) 40) (bind (inner d (λ e. side_by k e (beyond s))) (λ a r. closed (lead s) a r)) fail))))

  pub term_by : ℕ → ℕ → List ℕ → Parsed Term
  term_by zero d s = fail
  term_by (suc k) d s = bind (factor_by k d s) (λ f r. more_factors k d (factor f) r)

  pub more_factors : ℕ → ℕ → Term → List ℕ → Parsed Term
  more_factors zero d t s = fail
  more_factors (suc k) d t s =
      cond (eqb (next s) 42) (bind (factor_by k d (beyond s)) (λ f r. more_factors k d (times t (lead s) f) r)) (got t s)

  pub side_by : ℕ → ℕ → List ℕ → Parsed Side
  side_by zero d s = fail
  side_by (suc k) d s = bind (term_by k d s) (λ t r. more_terms k d (term t) r)

  pub more_terms : ℕ → ℕ → Side → List ℕ → Parsed Side
  more_terms zero d a s = fail
  more_terms (suc k) d a s =
      cond (eqb (next s) 43) (bind (term_by k d (beyond s)) (λ t r. more_terms k d (plus a (lead s) t) r))
      (cond (eqb (next s) 45) (bind (term_by k d (beyond s)) (λ t r. more_terms k d (less a (lead s) t) r)) (got a s))

-- ---- a whole text

unfoldable pub side_of : List ℕ → Parsed Side
side_of s = side_by (3 * length s + 3) 8 s

abbrev pub ended : List ℕ → Rule → Parsed Rule
ended [] r = got r []
ended (b ∷ s) r = fail

-- what stands after < or >: the = and the right side
unfoldable pub right_of : Side → ℕ → Relation → List ℕ → Parsed Rule
right_of a i k s =
    cond (eqb (first s) 61)
    (bind (side_of (tail s)) (λ b r. ended (skip r) (record { left = a; gap = i; relation = k; right = b; end = lead r })))
    fail

unfoldable pub relation_of : Side → List ℕ → Parsed Rule
relation_of a r =
    cond (eqb (next r) 60) (right_of a (lead r) at_most (beyond r))
    (cond (eqb (next r) 62) (right_of a (lead r) at_least (beyond r)) fail)

-- the rule that a text spells, if it spells one
unfoldable pub parse : List ℕ → Parsed Rule
parse s = bind (side_of s) (λ a r. relation_of a r)

abbrev pub judged : Parsed Rule → Typed
judged fail = no_rule Text
judged (got r s) = value_rule r

-- what a text reads as: the flaw of a text if it is too long or spells no rule, else the value of its rule
unfoldable pub answer : List ℕ → Typed
answer s = cond (leb (length s) 120) (judged (parse s)) (no_rule Text)
