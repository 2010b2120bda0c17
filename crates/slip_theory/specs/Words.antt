-- Document 02's facts of a slip as statements, in the words of linear programs: what `holds` tests.
use Rattle.std.specs.Prelude.{◌≡◌, ℕ, pos, ◌*ℤ◌}
use mathlib.Core.List.{List, Memᴰ}
use Rattle.ints.specs.Order.{◌<ᶻ◌}
use Rattle.lp.specs.declared.Constraint.{Constraint}
use Rattle.lp.specs.declared.Terms.{Terms}
use Rattle.lp.specs.declared.Point.{Point}
use Rattle.lp.specs.declared.Outcome.{Outcome}
use Rattle.lp.specs.declared.Outcome.TheVariants as outcome
use Rattle.lp.specs.Program.{slack, Keeps, system}
use Rattle.lp.specs.Textbook.{LawfulDirection}
use Rattle.slip.specs.declared.Weights.{Weights}
use Rattle.slip.specs.Facts.{Share, shares, rule_at, sums}

module _ (t : Terms) (records : List ℕ) (rules : List Constraint) where
  -- the pair keeps both floors and every rule
  abbrev pub Allowed : Point → Type 0
  Allowed v = (r : Constraint) → Memᴰ r (system t.floors rules) → Keeps r v

  -- the weighted sums of a and b are 0, and that of c is below 0
  pub record Conflicts (w : Weights) : Type 0 where
    pub a_cancels : (sums t records rules (shares w)).a ≡ pos 0
    pub b_cancels : (sums t records rules (shares w)).b ≡ pos 0
    pub c-falls : (sums t records rules (shares w)).c <ᶻ pos 0

  -- each entry holds with equality at an allowed pair, and the weighted sums of a and b are scale times p and q
  pub record Supports (v : Point) (w : Weights) : Type 0 where
    pub allowed : Allowed v
    pub tight : (s : Share) → Memᴰ s (shares w) → slack (rule_at t records rules s.code) v ≡ pos 0
    pub a_sum : (sums t records rules (shares w)).a ≡ w.scale *ℤ t.objective.p
    pub b-sum : (sums t records rules (shares w)).b ≡ w.scale *ℤ t.objective.q

  abbrev pub InWords : Outcome → Weights → Type 0
  InWords outcome.Infeasible w = Conflicts w
  InWords (outcome.Unbounded v d) w = Allowed v × LawfulDirection rules t.objective d
  InWords (outcome.Optimal v) w = Supports v w
