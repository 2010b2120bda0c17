-- Factors joined by * make a term, and terms joined by + and - make a side: one shape. What is proved of both is proved once, of a
-- chain of items: how an item and a whole are spelt, which are lawful, what they are worth, and how the parser reads the first item
-- and goes on after a joining byte.
use mathlib.Core.Path.{◌≡◌, refl}
use mathlib.Core.Bool.{false}
use mathlib.Core.List.{List, ◌∷◌}
use Prim.Native.Nat.{ℕ, suc, ◌≤◌, ◌<◌}
use native.Mathlib.Omega.{arith}
use lib.Dec.{eqb}
use Rattle.language.specs.Grammar.{Factor, Term, Side, factor, times, term, plus, less, pad, spell_factor, spell_term, spell_side, LawfulFactor, LawfulTerm, LawfulSide}
use Rattle.forms.specs.Value.{Value, sum, difference, product}
use Rattle.language.specs.Value.{value_factor, value_term, value_side}
use Rattle.language.specs.Parser.{Parsed, bind, lead, next, beyond, factor_by, term_by, more_factors, side_by, more_terms}
use Rattle.language.proofs.Steps.{term-step, side-step, factors_star, terms-plus, terms-less}

-- items A and the wholes B made of them; an item needs the fuel `extra` beyond three for each byte, a whole one more
pub record Chain (A B : Type 0) : Type 1 where
  pub one : A → B
  pub spell-item : A → List ℕ → List ℕ
  pub spell-whole : B → List ℕ → List ℕ
  pub LawfulItem : A → ℕ → Type 0
  pub LawfulWhole : B → ℕ → Type 0
  pub worth-item : A → Value
  pub worth-whole : B → Value
  pub item_by : ℕ → ℕ → List ℕ → Parsed A
  pub whole_by : ℕ → ℕ → List ℕ → Parsed B
  pub more : ℕ → ℕ → B → List ℕ → Parsed B
  pub extra : ℕ

-- one item is a whole
pub record Begins {A B : Type 0} (c : Chain A B) : Type 0 where
  pub lawful : (a : A) (d : ℕ) → c.LawfulItem a d → c.LawfulWhole (c.one a) d
  pub spelt : (a : A) (r : List ℕ) → c.spell-item a r ≡ c.spell-whole (c.one a) r
  pub worth : (a : A) → c.worth-whole (c.one a) ≡ c.worth-item a
  pub step : (k d : ℕ) (s : List ℕ) → c.whole_by (suc k) d s ≡ bind (c.item_by k d s) (λ a r. c.more k d (c.one a) r)

-- a whole, a byte and an item are a whole
pub record Joins {A B : Type 0} (c : Chain A B) (byte : ℕ) (join : B → ℕ → A → B) (op : Value → Value → Value) : Type 0 where
  pub few : c.extra ≤ 1
  pub some : 0 < byte
  pub no_space : eqb byte 32 ≡ false
  pub lawful : (b : B) (i : ℕ) (a : A) (d : ℕ) →
      c.LawfulWhole b d →
      c.LawfulItem a d →
      c.LawfulWhole (join b i a) d
  pub spelt : (b : B) (i : ℕ) (a : A) (r : List ℕ) → c.spell-whole b (pad i (byte ∷ c.spell-item a r)) ≡ c.spell-whole (join b i a) r
  pub worth : (b : B) (i : ℕ) (a : A) → c.worth-whole (join b i a) ≡ op (c.worth-whole b) (c.worth-item a)
  pub step : (k d : ℕ) (s : List ℕ) (b : B) →
      next s ≡ byte →
      c.more (suc k) d b s ≡ bind (c.item_by k d (beyond s)) (λ a r. c.more k d (join b (lead s) a) r)

-- ---- factors in a term

abbrev pub terms : Chain Factor Term
terms =
    record {
      one = factor;
      spell-item = spell_factor;
      spell-whole = spell_term;
      LawfulItem = LawfulFactor;
      LawfulWhole = LawfulTerm;
      worth-item = value_factor;
      worth-whole = value_term;
      item_by = factor_by;
      whole_by = term_by;
      more = more_factors;
      extra = 0;
    }

pub one-factor : Begins terms
unfolding spell_factor LawfulFactor value_factor
one-factor = record { lawful = λ a d l. l; spelt = λ a r. refl; worth = λ a. refl; step = term-step }

-- Each `refl` here and of sides computes at constructors of its own: a lemma over the item would take them all as premises, and be longer.
pub by_star : Joins terms 42 times product
unfolding spell_factor LawfulFactor value_factor
by_star =
    record {
      few = omega arith;
      some = omega arith;
      no_space = refl;
      lawful = λ b i a d l m. (l, m);
      spelt = λ b i a r. refl;
      worth = λ b i a. refl;
      step = factors_star;
    }

-- ---- terms in a side

abbrev pub sides : Chain Term Side
sides =
    record {
      one = term;
      spell-item = spell_term;
      spell-whole = spell_side;
      LawfulItem = LawfulTerm;
      LawfulWhole = LawfulSide;
      worth-item = value_term;
      worth-whole = value_side;
      item_by = term_by;
      whole_by = side_by;
      more = more_terms;
      extra = 1;
    }

pub one-term : Begins sides
unfolding spell_factor LawfulFactor value_factor
one-term = record { lawful = λ a d l. l; spelt = λ a r. refl; worth = λ a. refl; step = side-step }

pub by_plus : Joins sides 43 plus sum
unfolding spell_factor LawfulFactor value_factor
by_plus =
    record {
      few = omega arith;
      some = omega arith;
      no_space = refl;
      lawful = λ b i a d l m. (l, m);
      spelt = λ b i a r. refl;
      worth = λ b i a. refl;
      step = terms-plus;
    }

pub by-minus : Joins sides 45 less difference
unfolding spell_factor LawfulFactor value_factor
by-minus =
    record {
      few = omega arith;
      some = omega arith;
      no_space = refl;
      lawful = λ b i a d l m. (l, m);
      spelt = λ b i a r. refl;
      worth = λ b i a. refl;
      step = terms-less;
    }
