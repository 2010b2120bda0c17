-- What reading a book leaves in two runs that are lent: the records that the walk has passed, one a place, and their rules as they are
-- planned, three numbers a rule. What does not fit is left out, so that a run of any length may be lent.
use Rattle.std.specs.Prelude.{ℕ, suc, ◌+◌, ◌*◌, ◌≤◌, ◌≡◌, cond, List, [], ◌∷◌, length, set, ltb, ℤ}
use Rattle.lp.specs.declared.Constraint.{Constraint}
use Rattle.records.specs.Layout.{Layout}
use Rattle.records.specs.Header.{header_fault, count_of}
use Rattle.records.specs.Planned.{planned_rule}
use Rattle.book.specs.Reading.{Entry}

-- a book that is not refused for its header counts at most n rules, so that runs for n have room
abbrev pub Few : Layout → List ℕ → ℕ → Type 0
Few L s n = header_fault L s ≡ 0 → count_of L s ≤ n

-- a constraint at place k of a run, if there is room for the whole of it
abbrev pub put_entry : List ℤ → ℕ → Constraint → List ℤ
put_entry l k r =
    cond (ltb (3 * k + 2) (length l)) (set (set (set l (3 * k) r.a) (3 * k + 1) r.b) (3 * k + 2) r.c) l

-- the records of entries, from place k on
unfoldable pub put_records : List ℕ → ℕ → List Entry → List ℕ
put_records l k [] = l
put_records l k (e ∷ es) = put_records (set l k e.index) (suc k) es

-- their rules as they are planned, from place k on
unfoldable pub put_rules : List ℤ → ℕ → List Entry → List ℤ
put_rules l k [] = l
put_rules l k (e ∷ es) = put_rules (put_entry l k (planned_rule e.rule)) (suc k) es
