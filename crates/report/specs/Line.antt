-- The printed line of an answer as a list of bytes: words and decimal numbers, one space between fields, one line feed at the end. It
-- rests on the parts of a line (`text`), and on a pair and a direction (`pairs`).
use Rattle.std.specs.Prelude.{cond, List, [], ◌∷◌, ◌++◌, ℕ, zero, suc, ◌-◌, ltb, length, Ok, Err}
use Rattle.lp.specs.declared.Point.{Point}
use Rattle.lp.specs.declared.Ray.{Ray}
use Rattle.lp.specs.declared.Outcome.{Outcome}
use Rattle.lp.specs.declared.Outcome.TheVariants.{Infeasible, Unbounded, Optimal}
use Rattle.lp.specs.declared.Certificate.{Certificate}
use Rattle.lp.specs.Certificate.{Weighted, named}
use Rattle.text.specs.Text.{text}
use Rattle.text.specs.Number.{field, decimal, number, integer, refused}
use Rattle.pairs.specs.Pair.{pair, direction}
use Rattle.answers.specs.declared.Plan.{Plan}
use Rattle.answers.specs.Answer.{Answer}
use Rattle.report.specs.declared.Naming.{Naming}
use Rattle.report.specs.declared.Naming.TheVariants.{OneBook, TwoBooks}

-- moves open
unfoldable pub counts : Plan → List ℕ
counts p = number p.moves ++ number p.opened

-- ---- a witness

-- a rule of two books joined, by its name: up to 4,095 a record of the site's book, else one of the tenant's
unfoldable pub rule_of_two : ℕ → List ℕ
rule_of_two name = cond (ltb name 4096) (text " S" ++ decimal name) (text " T" ++ decimal (name - 4096))

-- of one book a name is a record
unfoldable pub rule : Naming → ℕ → List ℕ
rule OneBook name = number name
rule TwoBooks name = rule_of_two name

-- the floors have letters of no book; any other code is one more than a name
unfoldable pub entry : Naming → ℕ → List ℕ
entry m zero = field (text "X")
entry m (suc zero) = field (text "Y")
entry m (suc (suc q)) = rule m (suc q)

-- for each, entry and weight
unfoldable pub entries : Naming → List Weighted → List ℕ
entries m [] = []
entries m (w ∷ l) = (entry m w.entry ++ integer w.weight) ++ entries m l

-- k, then k times entry and weight: those whose weight is not 0
unfoldable pub witness : Naming → Certificate → List ℕ
witness m k = number (length (named k)) ++ entries m (named k)

-- ---- the line

unfoldable pub best : Plan → Point → List ℕ
best p v = text "best" ++ (pair v ++ counts p)

unfoldable pub unlimited : Plan → Point → Ray → List ℕ
unlimited p v d = text "unlimited" ++ (pair v ++ (direction d ++ counts p))

unfoldable pub impossible : Naming → Plan → List ℕ
impossible m p = text "impossible" ++ (number p.place ++ (counts p ++ witness m p.witness))

-- of a plan, by its outcome: only a witness names rules
unfoldable pub fields : Naming → Plan → Outcome → List ℕ
fields m p (Optimal v) = best p v
fields m p (Unbounded v d) = unlimited p v d
fields m p Infeasible = impossible m p

unfoldable pub answer_fields : Naming → Answer → List ℕ
answer_fields m (Ok p) = fields m p p.outcome
answer_fields m (Err r) = refused r.number r.at

unfoldable pub line_named : Naming → Answer → List ℕ
line_named m a = answer_fields m a ++ text "\n"

-- of the answer to one book
abbrev pub line_of : Answer → List ℕ
line_of = line_named OneBook
