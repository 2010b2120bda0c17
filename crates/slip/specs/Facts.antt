-- What a slip must be to get a yes: document 02's words for request 111, as tests. First the ranges, by which a slip is refused with 17;
-- then the facts of each outcome. A chain is given by its records and its rules, in order.
use Rattle.std.specs.Prelude.{List, [], ◌∷◌, Bool, true, false, not, cond, ◌&&◌, ℕ, zero, suc, eqb, ℤ, pos, negsuc, ◌+ℤ◌, ◌*ℤ◌, Option, Some, None}
use Rattle.std.specs.Int.Signed.{le_z, lt_z}
use Rattle.lp.specs.declared.Constraint.{Constraint}
use Rattle.lp.specs.declared.Floors.{Floors}
use Rattle.lp.specs.declared.Terms.{Terms}
use Rattle.lp.specs.declared.Point.{Point}
use Rattle.lp.specs.declared.Ray.{Ray}
use Rattle.lp.specs.declared.Outcome.{Outcome}
use Rattle.lp.specs.declared.Outcome.TheVariants as outcome
use Rattle.lp.specs.Program.{constraint, slack, along, rise, floor_x, floor_y, system}
use Rattle.lp.specs.Outcome.{every, allowed}
use Rattle.lp.specs.Certificate.{greatest_weight, is_zero}
use Rattle.lp.specs.Document.{same}
use Rattle.book.specs.Reading.{Reading, refused, accepted, rules_of, records_of}
use Rattle.answers.specs.Refusal.{refusal}
use Rattle.slip.specs.declared.Weights.{Weights}
use Rattle.slip.specs.declared.Slip.{Slip}
use Rattle.slip.specs.declared.Verdict.{Verdict}
use Rattle.slip.specs.declared.Verdict.TheVariants.{Refused, Yes, No}

-- ---- what a code names

-- the constraint of a floor or of a rule of the chain, or nothing
abbrev pub Named : Type 0
Named = Option Constraint

-- the rule in a record, if the chain has it
abbrev pub rule_in : List ℕ → List Constraint → ℕ → Named
rule_in [] rules r = None
rule_in (i ∷ is) [] r = None
rule_in (i ∷ is) (c ∷ cs) r = elim (eqb i r) [ true ↦ Some c | false ↦ rule_in is cs r ]

-- floor x, floor y, or the rule in record r, whose code is r + 1
abbrev pub entry_of : Floors → List ℕ → List Constraint → ℤ → Named
entry_of floors records rules (pos zero) = Some (floor_x floors)
entry_of floors records rules (pos (suc zero)) = Some (floor_y floors)
entry_of floors records rules (pos (suc (suc q))) = rule_in records rules (suc q)
entry_of floors records rules (negsuc n) = None

abbrev pub is_entry : Named → Bool
is_entry None = false
is_entry (Some r) = true

abbrev pub none : Constraint
none = constraint (pos 0) (pos 0) (pos 0)

abbrev pub entry_rule : Named → Constraint
entry_rule None = none
entry_rule (Some r) = r

-- ---- the entries of a slip

-- a code and its weight
pub record Share : Type 0 where
  pub code : ℤ
  pub weight : ℤ

abbrev pub share : ℤ → ℤ → Share
share c w = record { code = c; weight = w }

-- the first slots, as many as the count says
abbrev pub shares : Weights → List Share
shares w =
    cond (lt_z (pos 0) w.count) (share w.first w.first_weight
    ∷ cond (lt_z (pos 1) w.count) (share w.second w.second_weight
    ∷ cond (lt_z (pos 2) w.count) (share w.third w.third_weight ∷ []) []) []) []

abbrev pub distinct : List Share → Bool
distinct [] = true
distinct (s ∷ l) = every (λ u. not (same s.code u.code)) l && distinct l

-- a rule with its weight, added to sums of a, b and c
abbrev pub adding : ℤ → Constraint → Constraint → Constraint
adding w r total = constraint (w *ℤ r.a +ℤ total.a) (w *ℤ r.b +ℤ total.b) (w *ℤ r.c +ℤ total.c)

-- ---- ranges

abbrev pub ranges : ℤ → ℤ → ℤ → Bool
ranges low z high = le_z low z && le_z z high

-- D from 1 to 2,147,352,578, X and Y to 65,534,000,000,000 either way
abbrev pub pair_in_range : Point → Bool
pair_in_range v =
    ranges (negsuc 65533999999999) v.x (pos 65534000000000)
    && ranges (negsuc 65533999999999) v.y (pos 65534000000000)
    && ranges (pos 1) v.d (pos 2147352578)

-- dx and dy from 0 to 32,767
abbrev pub ray_in_range : Ray → Bool
ray_in_range d = ranges (pos 0) d.dx (pos 32767) && ranges (pos 0) d.dy (pos 32767)

-- a weight and a scale, as in a witness
abbrev pub weight_in_range : ℤ → Bool
weight_in_range w = ranges (pos 1) w greatest_weight

-- ---- what is answered

abbrev pub answered : Bool → Bool → Verdict
answered ranged facts = cond ranged (cond facts Yes No) (Refused (refusal 17 0))

-- ---- of a chain

module _ (t : Terms) (records : List ℕ) (rules : List Constraint) where
  abbrev pub rule_at : ℤ → Constraint
  rule_at code = entry_rule (entry_of t.floors records rules code)

  abbrev pub share_in_range : Share → Bool
  share_in_range s = weight_in_range s.weight && is_entry (entry_of t.floors records rules s.code)

  -- so many entries, each a floor or a rule of the chain, none named twice
  abbrev pub entries_in_range : ℤ → ℤ → Weights → Bool
  entries_in_range least most w = ranges least w.count most && every share_in_range (shares w) && distinct (shares w)

  -- what the outcome does not use is not looked at
  abbrev pub in_range : Outcome → Weights → Bool
  in_range outcome.Infeasible w = entries_in_range (pos 1) (pos 3) w
  in_range (outcome.Unbounded v d) w = pair_in_range v && ray_in_range d
  in_range (outcome.Optimal v) w = pair_in_range v && weight_in_range w.scale && entries_in_range (pos 0) (pos 2) w

  -- ---- facts

  -- the weighted sums of a, b and c
  abbrev pub sums : List Share → Constraint
  sums [] = none
  sums (s ∷ l) = adding s.weight (rule_at s.code) (sums l)

  -- each entry holds with equality at the pair
  abbrev pub tight_all : Point → List Share → Bool
  tight_all v l = every (λ s. is_zero (slack (rule_at s.code) v)) l

  -- an allowed pair: it keeps both floors and every rule
  abbrev pub is_allowed : Point → Bool
  is_allowed v = allowed (system t.floors rules) v

  -- a lawful direction: dx and dy are not negative by their ranges, and not both 0, since it gains
  abbrev pub is_lawful : Ray → Bool
  is_lawful d = every (λ r. le_z (rise r d) (pos 0)) rules && lt_z (pos 0) (along t.objective d)

  abbrev pub holds : Outcome → Weights → Bool
  holds outcome.Infeasible w =
      is_zero (sums (shares w)).a && is_zero (sums (shares w)).b && lt_z (sums (shares w)).c (pos 0)
  holds (outcome.Unbounded v d) w = is_allowed v && is_lawful d
  holds (outcome.Optimal v) w =
      is_allowed v
      && tight_all v (shares w)
      && same (sums (shares w)).a (w.scale *ℤ t.objective.p)
      && same (sums (shares w)).b (w.scale *ℤ t.objective.q)

  -- what the checker says of a slip for this chain
  abbrev pub judged : Slip → Verdict
  judged s = answered (in_range s.outcome s.weights) (holds s.outcome s.weights)

-- the book's own refusals come first
abbrev pub verdict_of : Reading → Slip → Verdict
verdict_of (refused n r) s = Refused (refusal n r)
verdict_of (accepted t es) s = judged t (records_of es) (rules_of es) s
