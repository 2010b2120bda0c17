-- A session: document 02's request 113. It holds up to 64 rules in their order under an objective and floors. Its answer is that of the
-- version 2 book with exactly these rules in records 1 up, so that a rule's name is its place from 1. What a start or a step hands back is
-- a session, and a step takes nothing else.
use Rattle.std.specs.Prelude.{◌≡◌, Bool, true, List, map, ◌⊎◌, ℕ, ◌≤◌, ◌<◌, length, take, get_or, pos, nat_abs}
use Rattle.std.specs.Int.{w16}
use Rattle.std.proofs.Common.{SFits}
use Rattle.lp.specs.Range.{SmallFunctional}
use Rattle.records.specs.declared.Rule.{Rule}
use Rattle.records.specs.Record.{decoded_with, number_of}
use Rattle.book.specs.Reading.{Entry, memb, records_of, rules_of}
use Rattle.repacker.specs.Repacking.{numbered}
use Rattle.answers.specs.declared.Plan.{Plan}
use Rattle.plans.specs.Planning.{PlannedAs}
use Rattle.sessions.specs.declared.Session.{Session}

-- what stands at a place without a rule
abbrev pub no_rule : Rule
no_rule = record { kind = 0; a = pos 0; b = pos 0; c = pos 0; label = 0 }

-- the rules held, in their order
abbrev pub held_of : Session → List Rule
held_of s = take s.n s.rules

-- ---- what turns a rule back

-- the first of 8, 9 and 10 as in a book's record, or 0
abbrev pub cause_of : Rule → ℕ
cause_of r = number_of (decoded_with true r 0)

-- whether a rule held has a label
abbrev pub label_held : Session → ℕ → Bool
label_held s label = memb label (map (λ (r : Rule). r.label) (held_of s))

-- what no cause turns back: kind 1 or 2, and every number within document 01's range
pub record Lawful (r : Rule) : Type 0 where
  pub kind : (r.kind ≡ 1) ⊎ (r.kind ≡ 2)
  pub a : nat_abs r.a ≤ 32767
  pub b : nat_abs r.b ≤ 32767
  pub c : nat_abs r.c ≤ 1000000000
  pub label : r.label < 65536

-- ---- a session as a start or a step hands it back

pub record IsSession (s : Session) : Type 0 where
  pub count : s.n ≤ 64
  pub size : length s.rules ≡ 64
  pub lawful : (j : ℕ) → j < s.n → Lawful (get_or s.rules j no_rule)
  pub apart : (j k : ℕ) → j < k → k < s.n → (get_or s.rules j no_rule).label ≡ (get_or s.rules k no_rule).label → ⊥
  pub blank : (j : ℕ) → s.n ≤ j → j < 64 → get_or s.rules j no_rule ≡ no_rule
  pub objective : SmallFunctional s.terms.objective
  pub floor-x : SFits w16 s.terms.floors.lx
  pub floor-y : SFits w16 s.terms.floors.ly

-- one that can take another rule
pub record Room (s : Session) : Type 0 where
  pub size : length s.rules ≡ 64
  pub free : s.n < 64

-- one that has a rule to withdraw
pub record Latest (s : Session) : Type 0 where
  pub size : length s.rules ≡ 64
  pub some : 0 < s.n
  pub count : s.n ≤ 64

-- ---- its answer

-- the rules held as the chain of a book, in records 1 up
abbrev pub chain_of : Session → List Entry
chain_of s = numbered 1 (held_of s)

pub record Shown (s : Session) (p : Plan) : Type 0 where
  pub answer : PlannedAs s.terms (records_of (chain_of s)) (rules_of (chain_of s)) p
