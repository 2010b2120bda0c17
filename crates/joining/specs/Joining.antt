-- Two books as one: document 02's request 108. The site's refusal comes before any of the tenant's. Accepted, they make a single list of
-- rules, the site's and then the tenant's, under the tenant's objective and of each floor the greater; what is answered is document 01's
-- answer to that list, whatever its length. The rule in the site's record r has the name r, and that in the tenant's record r the name 4,096
-- + r, so that each name says its book.
use Rattle.std.specs.Prelude.{◌≡◌, cond, List, ◌++◌, map, Result, Ok, Err, ℕ, zero, suc, ◌+◌, ◌-◌, ltb}
use Rattle.lp.specs.declared.Constraint.{Constraint}
use Rattle.lp.specs.declared.Floors.{Floors}
use Rattle.lp.specs.declared.Terms.{Terms}
use Rattle.lp.specs.Program.{floor_x, floor_y}
use Rattle.records.specs.Layout.{v2}
use Rattle.records.specs.Record.{record_at, rule_of}
use Rattle.records.specs.Planned.{planned_rule}
use Rattle.book.specs.Reading.{Reading, refused, accepted, Entry, read_of, rules_of, records_of}
use Rattle.answers.specs.declared.Plan.{Plan}
use Rattle.answers.specs.Refusal.{refusal}
use Rattle.plans.specs.Planning.{PlannedAs}
use Rattle.joint_terms.specs.Terms.{joined_terms}
use Rattle.joining.specs.declared.JointRefusal.{JointRefusal}
use Rattle.joining.specs.declared.JointRefusal.TheVariants.{Site, Tenant}

-- ---- the single list

-- a record of the tenant's book
abbrev pub tenant_name : ℕ → ℕ
tenant_name r = 4096 + r

abbrev pub joined_names : List Entry → List Entry → List ℕ
joined_names es fs = records_of es ++ map tenant_name (records_of fs)

abbrev pub joined_rules : List Entry → List Entry → List Constraint
joined_rules es fs = rules_of es ++ rules_of fs

-- what two books read as together: a book's refusal, or the terms and the rules with a name for each
pub data Joined : Type 0 where
  site-refused : ℕ → ℕ → Joined
  tenant-refused : ℕ → ℕ → Joined
  single : Terms → List ℕ → List Constraint → Joined

abbrev pub joined_of : Reading → Reading → Joined
joined_of (refused n r) y = site-refused n r
joined_of (accepted t es) (refused n r) = tenant-refused n r
joined_of (accepted t es) (accepted u fs) = single (joined_terms t u) (joined_names es fs) (joined_rules es fs)

-- ---- the answer to it

abbrev pub PlannedBy : Terms → List ℕ → List Constraint → Result Plan JointRefusal → Type 0
PlannedBy t names rules (Err x) = ⊥
PlannedBy t names rules (Ok p) = PlannedAs t names rules p

abbrev pub JoinedBy : Joined → Result Plan JointRefusal → Type 0
JoinedBy (site-refused n r) a = a ≡ Err (Site (refusal n r))
JoinedBy (tenant-refused n r) a = a ≡ Err (Tenant (refusal n r))
JoinedBy (single t names rules) a = PlannedBy t names rules a

-- the promise of `join`
pub record Joins (s u : List ℕ) (a : Result Plan JointRefusal) : Type 0 where
  pub answered : JoinedBy (joined_of (read_of v2 s) (read_of v2 u)) a

-- ---- what a code of a witness stands for

-- the rule in a record of a book
abbrev pub rule_in : List ℕ → ℕ → Constraint
rule_in s r = planned_rule (rule_of v2 (record_at v2 s r))

-- a name up to 4,095 is a record of the site's book, any other one of the tenant's
abbrev pub rule_by_name : List ℕ → List ℕ → ℕ → Constraint
rule_by_name s u name = cond (ltb name 4096) (rule_in s name) (rule_in u (name - 4096))

-- 0 is floor x, 1 is floor y, any other code is one more than a name
abbrev pub rule_named : Floors → List ℕ → List ℕ → ℕ → Constraint
rule_named floors s u zero = floor_x floors
rule_named floors s u (suc zero) = floor_y floors
rule_named floors s u (suc (suc q)) = rule_by_name s u (suc q)
