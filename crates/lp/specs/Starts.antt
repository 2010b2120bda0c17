-- Chains with their start pair and its count: none of the rules breaks it, every one does, only the last does, and a prefix that allows
-- no pair ends it.
use Rattle.std.specs.Prelude.{List, [], ◌∷◌, Bool, true, false, ◌&&◌, ℕ, eqb, ℤ, pos, negsuc, neg_ℤ}
use Rattle.lp.specs.declared.Constraint.{Constraint}
use Rattle.lp.specs.Program.{constraint, point}
use Rattle.lp.specs.Start.{Start, none, at, start_of, restarts}
use Rattle.lp.specs.Document.{tie, zero_floors, same_point}

pub record Chain : Type 0 where
  pub rules : List Constraint
  pub start : Start
  pub restarted : ℕ

abbrev at_least : ℤ → ℤ → ℤ → Constraint
at_least a b c = constraint (neg_ℤ a) (neg_ℤ b) (neg_ℤ c)

abbrev chain : List Constraint → Start → ℕ → Chain
chain rules start restarted = record { rules = rules; start = start; restarted = restarted }

abbrev pub chains : List Chain
chains =
    chain [] (at (point (pos 0) (pos 0) (pos 1))) 0
    -- none does
    ∷ chain (constraint (pos 1) (pos 2) (pos 8) ∷ constraint (pos 3) (pos 1) (pos 9) ∷ []) (at (point (pos 0) (pos 0) (pos 1))) 0
    -- every one does: (0, 4), (1, 3), (2, 2)
    ∷ chain (at_least (pos 1) (pos 1) (pos 4) ∷ constraint (pos 0) (pos 1) (pos 3) ∷ at_least (pos 2) (pos 1) (pos 6) ∷ [])
    (at (point (pos 2) (pos 2) (pos 1))) 3
    -- the first pair is of least total and not of least x, so that the second rule breaks it: (2, 0), (0, 4)
    ∷ chain (at_least (pos 2) (pos 1) (pos 4) ∷ constraint (pos 1) (pos 0) (pos 0) ∷ []) (at (point (pos 0) (pos 4) (pos 1))) 2
    -- only the last does
    ∷ chain (constraint (pos 1) (pos 2) (pos 8) ∷ constraint (pos 3) (pos 1) (pos 9) ∷ at_least (pos 1) (pos 0) (pos 1) ∷ [])
    (at (point (pos 1) (pos 0) (pos 1))) 1
    -- the second rule leaves no pair and is counted; those after it are not
    ∷ chain (constraint (pos 1) (pos 1) (pos 3) ∷ at_least (pos 1) (pos 1) (pos 4) ∷ at_least (pos 1) (pos 0) (pos 1)
    ∷ at_least (pos 0) (pos 1) (pos 5) ∷ []) none 1
    ∷ chain (at_least (pos 1) (pos 0) (pos 2) ∷ constraint (pos 1) (pos 0) (pos 1) ∷ at_least (pos 1) (pos 0) (pos 3) ∷ []) none 2
    -- a rule without a direction that nothing keeps
    ∷ chain (constraint (pos 0) (pos 0) (negsuc 0) ∷ constraint (pos 0) (pos 0) (negsuc 0) ∷ []) none 1
    ∷ []

abbrev pub same_start : Start → Start → Bool
same_start none none = true
same_start none (at v) = false
same_start (at v) none = false
same_start (at v) (at w) = same_point v w

-- what is said of a chain is the row's
abbrev pub said_of : Chain → Start → ℕ → Bool
said_of c s n = same_start s c.start && eqb n c.restarted

abbrev pub starts : Chain → Bool
starts c = said_of c (start_of tie zero_floors c.rules) (restarts tie zero_floors c.rules)
