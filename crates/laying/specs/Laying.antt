-- The promise of `lay`: what `region::corners` promises, for an order that names each of the rules that stand in the run and nothing else.
-- Which order that is, is free: it is chosen for speed, and every number of the other runs follows from it.
use Rattle.std.specs.Prelude.{◌≡◌, Bool, true, false, ◌&&◌, ℕ, ◌+◌, ◌*◌, leb, length, ℤ, Option}
use mathlib.Core.List.{List, Memᴰ}
use Rattle.lp.specs.declared.Floors.{Floors}
use Rattle.lp.specs.Outcome.{every}
use Rattle.engine.specs.Entries.{entries}
use Rattle.amounts.specs.Tests.{rule_in_range, floors_in_range}
use Rattle.region.specs.Listing.{Lists}
use Rattle.region.proofs.Theorems.{places}

-- an order of n rules by their entries: it names each of them, and nothing else
pub record Names (n : ℕ) (order : List ℕ) : Type 0 where
  pub to : (k : ℕ) → Memᴰ k (places 2 n) → Memᴰ k order
  pub from : (k : ℕ) → Memᴰ k order → Memᴰ k (places 2 n)

-- runs of these lengths have room for a ring of n rules and for its corners
abbrev pub roomy : ℕ → ℕ → ℕ → Bool
roomy n ring corners = leb n 65533 && (leb (n + 4) ring && leb (3 * (n + 3)) corners)

-- an order is made
abbrev pub ready : Floors → ℕ → ℕ → ℕ → Bool
ready f n ring corners = roomy n ring corners && floors_in_range f

-- all numbers are within their ranges and all runs have room, so that the corners of n rules are listed
abbrev pub within : Floors → List ℤ → ℕ → ℕ → ℕ → Bool
within f e n ring corners = ready f n ring corners && (leb (3 * (n + 3)) (length e) && every rule_in_range (entries e 2 n))

pub record Lays
    (f : Floors) (e : List ℤ) (order ring : List ℕ) (corners : List ℤ)
    (r : Option ℕ) (e' : List ℤ) (order' ring' : List ℕ) (corners' : List ℤ) : Type 0 where
  pub listed : Lists f e (length order) order' ring corners r e' ring' corners'
  pub as_long : length order' ≡ length order
  pub named : ready f (length order) (length ring) (length corners) ≡ true → Names (length order) order'
  pub left : ready f (length order) (length ring) (length corners) ≡ false → order' ≡ order
