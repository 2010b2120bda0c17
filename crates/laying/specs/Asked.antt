-- What private functions ask of the floors and the order, and what they hand back.
use Rattle.std.specs.Prelude.{◌≡◌, List, true, ℕ, ◌+◌, ◌*◌, ◌≤◌, length, ℤ}
use Rattle.lp.specs.declared.Floors.{Floors}
use Rattle.lp.specs.Outcome.{every}
use Rattle.lp.specs.Range.{SmallFloors}
use Rattle.engine.specs.Entries.{entries}
use Rattle.amounts.specs.Tests.{rule_in_range}
use Rattle.region.specs.Listing as listing
use Rattle.laying.specs.Laying.{Names}

pub record Ordering (f : Floors) (order : List ℕ) : Type 0 where
  pub floors-small : SmallFloors f
  pub few : length order ≤ 65533

-- the run is as it was, or the floors and the horizon were put round its rules, which are within their ranges then
pub data Stays (f : Floors) (e : List ℤ) (n : ℕ) (e' : List ℤ) : Type 0 where
  untouched : e' ≡ e → Stays f e n e'
  framed : e' ≡ listing.framed f e n → 3 * (n + 3) ≤ length e → every rule_in_range (entries e 2 n) ≡ true → Stays f e n e'

pub record Ordered (f : Floors) (e : List ℤ) (n : ℕ) (e' : List ℤ) (order' : List ℕ) : Type 0 where
  pub run : Stays f e n e'
  pub named : Names n order'
