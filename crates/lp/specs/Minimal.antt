-- Witnesses with nothing spare, each with the pairs that show it: for every entry that is given up, one that the others allow. And one
-- with a spare entry, of which no pair can show it.
use Rattle.std.specs.Prelude.{List, [], ◌∷◌, Bool, true, false, not, ◌&&◌, ℕ, eqb, ℤ, pos, negsuc, neg_ℤ}
use Rattle.std.specs.Int.Signed.{lt_z}
use Rattle.lp.specs.declared.Constraint.{Constraint}
use Rattle.lp.specs.declared.Point.{Point}
use Rattle.lp.specs.Program.{constraint, point, system}
use Rattle.lp.specs.Outcome.{keep, every, keeps}
use Rattle.lp.specs.Certificate.{Weighted, entry_in, certifies}
use Rattle.lp.specs.Document.{zero_floors}

pub record Minimal : Type 0 where
  pub entries : List Constraint
  pub witness : List Weighted
  pub pairs : List Point

-- the entries of a witness but the one that is given up
abbrev pub others : ℕ → List Weighted → List Weighted
others e l = keep (λ y. not (eqb y.entry e)) l

-- a pair for each of the entries xs of the witness l
abbrev pub shown : List Constraint → List Weighted → List Weighted → List Point → Bool
shown S l [] vs = true
shown S l (x ∷ xs) [] = false
shown S l (x ∷ xs) (v ∷ vs) = lt_z (pos 0) v.d && every (λ y. keeps (entry_in S y.entry) v) (others x.entry l) && shown S l xs vs

abbrev pub minimal : Minimal → Bool
minimal m = certifies m.entries m.witness && shown m.entries m.witness m.witness m.pairs

-- ---- the table

abbrev at_least : ℤ → ℤ → ℤ → Constraint
at_least a b c = constraint (neg_ℤ a) (neg_ℤ b) (neg_ℤ c)

-- 0 ≤ 0, which every pair keeps
abbrev pub idle : Constraint
idle = constraint (pos 0) (pos 0) (pos 0)

abbrev pub named : ℕ → ℕ → Weighted
named e n = record { entry = e; weight = pos n }

abbrev at : ℤ → ℤ → Point
at x y = point x y (pos 1)

abbrev row : List Constraint → List Weighted → List Point → Minimal
row rules witness pairs = record { entries = system zero_floors rules; witness = witness; pairs = pairs }

-- alone; a floor and a rule, with an idle rule that is not named; two parallel rules; three rules; both floors and a rule
abbrev pub minimals : List Minimal
minimals =
    row (constraint (pos 0) (pos 0) (negsuc 0) ∷ []) (named 2 1 ∷ []) (at (pos 0) (pos 0) ∷ [])
    ∷ row (constraint (pos 1) (pos 0) (negsuc 0) ∷ idle ∷ [])
    (named 0 1 ∷ named 2 1 ∷ [])
    (at (negsuc 0) (pos 0) ∷ at (pos 0) (pos 0) ∷ [])
    ∷ row (constraint (pos 1) (pos 1) (pos 3) ∷ at_least (pos 1) (pos 1) (pos 4) ∷ [])
    (named 2 1 ∷ named 3 1 ∷ []) (at (pos 4) (pos 0) ∷ at (pos 0) (pos 0) ∷ [])
    ∷ row (at_least (pos 1) (pos 1) (pos 4) ∷ constraint (pos 1) (pos 0) (pos 1) ∷ constraint (pos 0) (pos 1) (pos 1) ∷ [])
    (named 2 1 ∷ named 3 1 ∷ named 4 1 ∷ []) (at (pos 1) (pos 1) ∷ at (pos 3) (pos 1) ∷ at (pos 1) (pos 3) ∷ [])
    ∷ row (constraint (pos 2) (pos 3) (negsuc 5) ∷ [])
    (named 0 2 ∷ named 1 3 ∷ named 2 1 ∷ []) (at (negsuc 2) (pos 0) ∷ at (pos 0) (negsuc 1) ∷ at (pos 0) (pos 0) ∷ [])
    ∷ []

-- x ≤ −1 clashes with floor x alone; the idle rule is spare
abbrev pub spared : List Constraint
spared = system zero_floors (constraint (pos 1) (pos 0) (negsuc 0) ∷ idle ∷ [])

abbrev pub with_spare : List Weighted
with_spare = named 0 1 ∷ named 2 1 ∷ named 3 1 ∷ []
