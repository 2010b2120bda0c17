-- Which slips a text says, by the definition of a slip's text alone (`slip_text`): the slip is one that a line can say, with nothing in its
-- unused slots, its numbers have 64 bits, and the text is its text, with or without a line feed at the end. What the reader
-- promises. That a text says one slip at most is a theorem (proofs/Lines.antt).
use Rattle.std.specs.Prelude.{◌≡◌, List, ◌++◌, Bool, true, false, ◌⊎◌, ℕ, ℤ, pos, Option, Some, None}
use Rattle.std.specs.Int.Signed.{le_z}
use Rattle.std.specs.Int.{w64}
use Rattle.std.proofs.Common.{SFits}
use Rattle.lp.specs.declared.Outcome.{Outcome}
use Rattle.lp.specs.declared.Outcome.TheVariants.{Infeasible, Unbounded, Optimal}
use Rattle.text.specs.Text.{text}
use Rattle.slip.specs.declared.Weights.{Weights}
use Rattle.slip.specs.declared.Slip.{Slip}
use Rattle.slip.specs.Slots.{one, two, three}
use Rattle.slip.specs.Facts.{ranges}
use Rattle.slip_text.specs.Text.{slip_text}
use Rattle.slip_reader.specs.Fields.{no_weights}

-- ---- what a line can say

-- a slot that counts names a floor or a record, which have codes from 0 on; another one is empty
abbrev pub Slotted : Bool → ℤ → ℤ → Type 0
Slotted true code weight = le_z (pos 0) code ≡ true
Slotted false code weight = (code ≡ pos 0) × (weight ≡ pos 0)

-- three entries at most, and nothing in unused slots
pub record Counted (w : Weights) : Type 0 where
  pub few : ranges (pos 0) w.count (pos 3) ≡ true
  pub first : Slotted (one w) w.first w.first_weight
  pub second : Slotted (two w) w.second w.second_weight
  pub third : Slotted (three w) w.third w.third_weight

-- an unlimited plan's slip has no entry, and an impossible one's no scale
abbrev pub Plain : Outcome → Weights → Type 0
Plain (Optimal v) w = Counted w
Plain (Unbounded v d) w = w ≡ no_weights
Plain Infeasible w = Counted w × (w.scale ≡ pos 0)

-- ---- numbers of 64 bits

abbrev pub Wide : ℤ → Type 0
Wide z = SFits w64 z

pub record WideWeights (w : Weights) : Type 0 where
  pub scale : Wide w.scale
  pub count : Wide w.count
  pub first : Wide w.first
  pub first-weight : Wide w.first_weight
  pub second : Wide w.second
  pub second-weight : Wide w.second_weight
  pub third : Wide w.third
  pub third-weight : Wide w.third_weight

abbrev pub WideOutcome : Outcome → Type 0
WideOutcome (Optimal v) = Wide v.x × Wide v.y × Wide v.d
WideOutcome (Unbounded v d) = Wide v.x × Wide v.y × Wide v.d × Wide d.dx × Wide d.dy
WideOutcome Infeasible = Unit {0}

-- ---- what a text says

-- the slip's text, with or without a line feed
abbrev pub Stands : Slip → List ℕ → Type 0
Stands s l = (l ≡ slip_text s) ⊎ (l ≡ slip_text s ++ text "\n")

pub record Says (l : List ℕ) (s : Slip) : Type 0 where
  pub plain : Plain s.outcome s.weights
  pub wide-outcome : WideOutcome s.outcome
  pub wide-weights : WideWeights s.weights
  pub stands : Stands s l

-- the promise of the reader: the slip that a text says, if it says one
abbrev pub Reads : List ℕ → Option Slip → Type 0
Reads l (Some s) = Says l s
Reads l None = (s : Slip) → Says l s → ⊥
