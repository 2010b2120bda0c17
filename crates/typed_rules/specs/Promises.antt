-- What the private functions promise. A text stands for what is left of it.
use Rattle.std.specs.Prelude.{◌≡◌, cond, List, ℕ, suc, ◌+◌, ◌*◌, ◌<◌, eqb, length, Option, Some, None}
use Rattle.std.specs.Borrow.{Bor}
use Rattle.scanning.specs.Bytes.{past}
use Rattle.forms.specs.declared.Sense.{Sense}
use Rattle.forms.specs.Small.{Small}
use Rattle.language.specs.Grammar.{Side, Relation}
use Rattle.forms.specs.Value.{Value, Typed}
use Rattle.language.specs.Value.{value_factor, value_term, value_side, sense_of}
use Rattle.language.specs.Parser.{Parsed, fail, got, next, beyond, number_at, factor_by, term_by, more_factors, side_by, more_terms, relation_of, right_of, judged}

-- ---- readers

abbrev pub valued : {A : Type 0} → (A → Value) → Parsed A → Parsed Value
valued v fail = fail
valued v (got a r) = got (v a) r

-- what a reader found: a value and what is left of the text behind it, or nothing of the language
abbrev pub Step : Type 0
Step = Option (Value × Bor (List ℕ))

-- what a step says of the text
abbrev pub view : Step → Parsed Value
view (Some (v, r)) = got v r.now
view None = fail

-- less than so many bytes are left behind a value
pub record Reached (size : ℕ) (v : Value) (l : List ℕ) : Type 0 where
  pub small : Small v
  pub short : length l < size

abbrev pub Moved : ℕ → Step → Type 0
Moved size (Some (v, r)) = Reached size v r.now
Moved size None = Unit {0}

-- three units of fuel for each byte that is left, and so many more, are enough
abbrev pub Enough : List ℕ → ℕ → ℕ → Type 0
Enough text more k = 3 * length text + more < k

-- a reader of a part: `by` is the parser's, which needs so much fuel more, and `worth` the value of its tree
pub record ReadsPart {A : Type 0} (worth : A → Value) (by : ℕ → ℕ → List ℕ → Parsed A) (more : ℕ)
    (text : List ℕ) (depth : ℕ) (r : Step) : Type 0 where
  pub same : (k : ℕ) → Enough text more k → valued worth (by k depth text) ≡ view r
  pub moved : Moved (length text) r

abbrev pub ReadsFactor : List ℕ → ℕ → Step → Type 0
ReadsFactor text depth r = ReadsPart value_factor factor_by 0 text depth r

abbrev pub ReadsTerm : List ℕ → ℕ → Step → Type 0
ReadsTerm text depth r = ReadsPart value_term term_by 1 text depth r

abbrev pub ReadsSide : List ℕ → ℕ → Step → Type 0
ReadsSide text depth r = ReadsPart value_side side_by 2 text depth r

-- a reader of what follows a part of the value v
pub record ReadsOn {A : Type 0} (worth : A → Value) (by : ℕ → ℕ → A → List ℕ → Parsed A)
    (text : List ℕ) (depth : ℕ) (v : Value) (r : Step) : Type 0 where
  pub same : (k : ℕ) → Enough text 0 k → (a : A) → worth a ≡ v → valued worth (by k depth a text) ≡ view r
  pub moved : Moved (suc (length text)) r

abbrev pub ReadsFactors : List ℕ → ℕ → Value → Step → Type 0
ReadsFactors text depth v r = ReadsOn value_term more_factors text depth v r

abbrev pub ReadsTerms : List ℕ → ℕ → Value → Step → Type 0
ReadsTerms text depth v r = ReadsOn value_side more_terms text depth v r

-- ---- parts of the readers

-- a number that begins right here
pub record ReadsNumber (text : List ℕ) (r : Step) : Type 0 where
  pub same : (i : ℕ) → valued value_factor (number_at i text) ≡ view r
  pub moved : Moved (suc (length (past text))) r

-- the text after a parenthesis that must come next
abbrev pub closing : Value → List ℕ → Parsed Value
closing v r = cond (eqb (next r) 41) (got v (beyond r)) fail

pub record Closes (text : List ℕ) (v : Value) (r : Step) : Type 0 where
  pub same : closing v text ≡ view r
  pub moved : Moved (length text) r

-- ---- the whole text

pub record JudgesRight (text : List ℕ) (sense : Sense) (v : Value) (r : Typed) : Type 0 where
  pub same : (a : Side) (i : ℕ) (k : Relation) → value_side a ≡ v → sense_of k ≡ sense → r ≡ judged (right_of a i k text)

pub record Judges (text : List ℕ) (v : Value) (r : Typed) : Type 0 where
  pub same : (a : Side) → value_side a ≡ v → r ≡ judged (relation_of a text)
