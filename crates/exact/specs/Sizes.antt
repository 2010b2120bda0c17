-- Document 01's bounds on what is reckoned with: of numbers within them no product and no sum leaves 64 bits. The types of this crate say
-- them of themselves.
use Rattle.std.specs.Prelude.{ℤ, pos, Option, None, Some}
use Rattle.ints.specs.Order.{◌<ᶻ◌}
use Rattle.ints.specs.Within.{Within}
use Rattle.lp.specs.declared.Constraint.{Constraint}
use Rattle.lp.specs.declared.Functional.{Functional}
use Rattle.lp.specs.declared.Point.{Point}
use Rattle.lp.specs.declared.Ray.{Ray}
use Rattle.lp.specs.Range.{SmallConstraint, SmallFunctional}

-- a corner of lawful rules, in lowest terms or not
pub record SmallPoint (v : Point) : Type 0 where
  pub x-small : Within 65534000000000 v.x
  pub y-small : Within 65534000000000 v.y
  pub d_small : Within 2147352578 v.d
  pub d-proper : pos 0 <ᶻ v.d

pub record SmallRay (d : Ray) : Type 0 where
  pub dx-small : Within 32767 d.dx
  pub dy-small : Within 32767 d.dy

abbrev pub SmallCone : Option (Ray × Ray) → Type 0
SmallCone None = Unit {0}
SmallCone (Some (lo, hi)) = SmallRay lo × SmallRay hi

-- of two products
pub record Factors (p q s t : ℤ) : Type 0 where
  pub p-small : Within 1000000000 p
  pub q-small : Within 1000000000 q
  pub s-small : Within 1000000000 s
  pub t-small : Within 1000000000 t

-- of c·d − (a·x + b·y)
pub record Distance (a x b y c d : ℤ) : Type 0 where
  pub a_small : Within 32767 a
  pub x-small : Within 65534000000000 x
  pub b-small : Within 32767 b
  pub y-small : Within 65534000000000 y
  pub c-small : Within 1000000000 c
  pub d_small : Within 2147352578 d

pub record Lines (r s : Constraint) : Type 0 where
  pub first : SmallConstraint r
  pub second : SmallConstraint s

-- a constraint and the lines of two others, whose corner it may keep
pub record Meeting (h p q : Constraint) : Type 0 where
  pub h-small : SmallConstraint h
  pub p-small : SmallConstraint p
  pub q-small : SmallConstraint q

pub record Risen (r : Constraint) (d : Ray) : Type 0 where
  pub constraint : SmallConstraint r
  pub ray : SmallRay d

pub record Gained (f : Functional) (d : Ray) : Type 0 where
  pub functional : SmallFunctional f
  pub ray : SmallRay d

-- a functional and a point, whose gain is p·x + q·y
pub record Earned (f : Functional) (v : Point) : Type 0 where
  pub p-small : Within 32767 f.p
  pub x-small : Within 65534000000000 v.x
  pub q-small : Within 32767 f.q
  pub y-small : Within 65534000000000 v.y

-- of a constraint, or a functional, and the rays of a cone
pub record Narrowing (h : Constraint) (cone : Option (Ray × Ray)) : Type 0 where
  pub constraint : SmallConstraint h
  pub rays : SmallCone cone

pub record Gaining (f : Functional) (cone : Option (Ray × Ray)) : Type 0 where
  pub functional : SmallFunctional f
  pub rays : SmallCone cone
