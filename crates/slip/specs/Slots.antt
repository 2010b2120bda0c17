-- A slip's three slots looked up, as the code holds them: each with the rule and the weight that it adds. That they say what the list of
-- shares says is proved in proofs/Slots.antt; nothing here stands in a promise.
use Rattle.std.specs.Prelude.{List, Bool, true, false, not, cond, ◌&&◌, ◌||◌, ℕ, ℤ, pos, ◌*ℤ◌, Some, None}
use Rattle.std.specs.Int.Signed.{lt_z}
use Rattle.ints.specs.Within.{Within}
use Rattle.lp.specs.declared.Constraint.{Constraint}
use Rattle.lp.specs.declared.Functional.{Functional}
use Rattle.lp.specs.declared.Floors.{Floors}
use Rattle.lp.specs.declared.Terms.{Terms}
use Rattle.lp.specs.declared.Point.{Point}
use Rattle.lp.specs.Program.{slack, system}
use Rattle.lp.specs.Outcome.{allowed}
use Rattle.lp.specs.Certificate.{is_zero}
use Rattle.lp.specs.Range.{SmallConstraint, SmallTerms}
use Rattle.answers.specs.Refusal.{refusal}
use Rattle.lp.specs.Document.{same}
use Rattle.slip.specs.declared.Weights.{Weights}
use Rattle.slip.specs.declared.Verdict.{Verdict}
use Rattle.slip.specs.declared.Verdict.TheVariants.{Refused, Yes, No}
use Rattle.slip.specs.declared.named.Slot.{Slot}
use Rattle.slip.specs.declared.named.Slots.{Slots}
use Rattle.slip.specs.Runs.{SmallPair, Entries}
use Rattle.slip.specs.Facts.{Named, entry_of, none, weight_in_range, adding}

abbrev pub slot_with : Bool → Constraint → ℤ → Slot
slot_with sound rule weight = record { sound = sound; rule = rule; weight = weight }

abbrev pub slots_with : Slot → Slot → Slot → Slots
slots_with first second third = record { first = first; second = second; third = third }

abbrev pub blank_of : Bool → Slot
blank_of sound = slot_with sound none (pos 0)

abbrev pub weighed_of : Named → ℤ → Slot
weighed_of None w = blank_of false
weighed_of (Some r) w = cond (weight_in_range w) (slot_with true r w) (blank_of false)

abbrev pub slot_of : Bool → Named → ℤ → Slot
slot_of counts e w = cond counts (weighed_of e w) (blank_of true)

-- which slots count
abbrev pub one : Weights → Bool
one w = lt_z (pos 0) w.count

abbrev pub two : Weights → Bool
two w = one w && lt_z (pos 1) w.count

abbrev pub three : Weights → Bool
three w = two w && lt_z (pos 2) w.count

abbrev pub slots_of : Floors → List ℕ → List Constraint → Weights → Slots
slots_of floors records rules w =
    slots_with (slot_of (one w) (entry_of floors records rules w.first) w.first_weight)
    (slot_of (two w) (entry_of floors records rules w.second) w.second_weight)
    (slot_of (three w) (entry_of floors records rules w.third) w.third_weight)

abbrev pub apart_of : Weights → Bool
apart_of w =
    not (two w && same w.first w.second || three w && same w.first w.third || three w && same w.second w.third)

abbrev pub sound_of : Slots → Weights → Bool
sound_of s w = s.first.sound && s.second.sound && s.third.sound && apart_of w

abbrev pub total_of : Slots → Constraint
total_of s =
    adding s.first.weight s.first.rule
    (adding s.second.weight s.second.rule (adding s.third.weight s.third.rule none))

pub record SmallSlot (s : Slot) : Type 0 where
  pub rule : SmallConstraint s.rule
  pub weight : Within 2147352578 s.weight

pub record SmallSlots (s : Slots) : Type 0 where
  pub first : SmallSlot s.first
  pub second : SmallSlot s.second
  pub third : SmallSlot s.third

-- ---- what the facts ask, and what they are in terms of slots

pub record Tight (s : Slots) (v : Point) : Type 0 where
  pub slots : SmallSlots s
  pub pair : SmallPair v

pub record Proving (t : Terms) (l : List ℤ) (n : ℕ) (v : Point) (s : Slots) (scale : ℤ) : Type 0 where
  pub terms : SmallTerms t
  pub entries : Entries l n
  pub pair : SmallPair v
  pub slots : SmallSlots s
  pub scale_small : Within 2147352578 scale

abbrev pub tight_of : Slots → Point → Bool
tight_of s v = is_zero (slack s.first.rule v) && is_zero (slack s.second.rule v) && is_zero (slack s.third.rule v)

abbrev pub balanced_of : Constraint → ℤ → Functional → Bool
balanced_of sums scale f = same sums.a (scale *ℤ f.p) && same sums.b (scale *ℤ f.q)

abbrev pub refutes_of : Constraint → Bool
refutes_of sums = is_zero sums.a && is_zero sums.b && lt_z sums.c (pos 0)

abbrev pub proves_of : Terms → List Constraint → Point → Slots → ℤ → Bool
proves_of t rules v s scale =
    allowed (system t.floors rules) v && tight_of s v && balanced_of (total_of s) scale t.objective

abbrev pub said_of : Bool → Verdict
said_of facts = cond facts Yes No

abbrev pub refused_as : ℕ → Verdict
refused_as n = Refused (refusal n 0)
