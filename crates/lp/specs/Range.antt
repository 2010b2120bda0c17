-- The ranges of what a book gives, each within its numbers whatever the book: a rule's a and b are −32,767 to 32,767 and its c
-- −1,000,000,000 to 1,000,000,000, an objective's p and q −32,767 to 32,767, a floor any signed number of sixteen bits. This is the one
-- definition of the range of a rule.
use Rattle.std.specs.Prelude.{List, [], ◌∷◌}
use Rattle.ints.specs.Within.{Within}
use Rattle.lp.specs.declared.Constraint.{Constraint}
use Rattle.lp.specs.declared.Functional.{Functional}
use Rattle.lp.specs.declared.Floors.{Floors}
use Rattle.lp.specs.declared.Tie.{Tie}
use Rattle.lp.specs.declared.Terms.{Terms}

pub record SmallConstraint (r : Constraint) : Type 0 where
  pub a_small : Within 32767 r.a
  pub b-small : Within 32767 r.b
  pub c-small : Within 1000000000 r.c

-- every constraint of a system
abbrev pub SmallSystem : List Constraint → Type 0
SmallSystem [] = Unit {0}
SmallSystem (r ∷ S) = SmallConstraint r × SmallSystem S

pub record SmallFunctional (f : Functional) : Type 0 where
  pub p-small : Within 32767 f.p
  pub q-small : Within 32767 f.q

pub record SmallTie (t : Tie) : Type 0 where
  pub first_small : SmallFunctional t.first
  pub second-small : SmallFunctional t.second

pub record SmallFloors (f : Floors) : Type 0 where
  pub lx_small : Within 32768 f.lx
  pub ly_small : Within 32768 f.ly

-- objective and floors
pub record SmallTerms (t : Terms) : Type 0 where
  pub objective-small : SmallFunctional t.objective
  pub floors-small : SmallFloors t.floors
