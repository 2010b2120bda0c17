-- Values within the limit: what every operation hands back, and what the private functions ask for. It rests on the values (Value).
use Rattle.std.specs.Prelude.{◌≡◌, ℤ, Result, Ok, Err}
use Rattle.ints.specs.Within.{Within}
use Rattle.forms.specs.declared.Form.{Form}
use Rattle.forms.specs.declared.Flaw.{Flaw}
use Rattle.forms.specs.Value.{Value, limit}

-- a form whose numbers are at most 1,000,000,000 either way
pub record SmallForm (f : Form) : Type 0 where
  pub a : Within limit f.a
  pub b : Within limit f.b
  pub c : Within limit f.c

abbrev pub Small : Value → Type 0
Small (Ok f) = SmallForm f
Small (Err e) = Unit {0}

-- a value as said, and small
pub record Valued (expected result : Value) : Type 0 where
  pub same : result ≡ expected
  pub small : Small result

-- ---- operands

pub record SmallForms (f g : Form) : Type 0 where
  pub left : SmallForm f
  pub right : SmallForm g

pub record SmallPair (y z : ℤ) : Type 0 where
  pub left : Within limit y
  pub right : Within limit z

pub record SmallFour (p q s t : ℤ) : Type 0 where
  pub p-small : Within limit p
  pub q-small : Within limit q
  pub s-small : Within limit s
  pub t-small : Within limit t

abbrev pub Pair : Type 0
Pair = Result (Form × Form) Flaw

-- the forms of two values, or the flaw of the first that has one
abbrev pub pair_of : Value → Value → Pair
pair_of (Ok f) (Ok g) = Ok (f, g)
pair_of (Ok f) (Err e) = Err e
pair_of (Err e) w = Err e

abbrev pub SmallIn : Pair → Type 0
SmallIn (Ok (f, g)) = SmallForms f g
SmallIn (Err e) = Unit {0}

pub record Paired (v w : Value) (p : Pair) : Type 0 where
  pub same : p ≡ pair_of v w
  pub small : SmallIn p
