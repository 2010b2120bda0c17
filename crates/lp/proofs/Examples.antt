-- The class examples marked * in document 01 hold of the definitions, and so do its pitfalls, the examples with floors and the slacks: one
-- computation over each table, and every row follows.
use mathlib.Core.Path.{◌≡◌, refl}
use mathlib.Core.List.Memᴰ
use mathlib.Core.List.{List, [], ◌∷◌, map, Memᴰ}
use mathlib.Core.Bool.{Bool, true, false}
use mathlib.Core.Logic.{⊎_elim}
use mathlib.Core.Path.{sym, subst}
use lib.Dec.{T}
use Rattle.ints.specs.Gcd.{gcd}
use Rattle.lp.specs.Outcome.{every}
use Rattle.lp.specs.Document.{Example, holds}
use Rattle.lp.specs.Slack.{slack_of}
use Rattle.lp.specs.Examples.{class_examples, pitfalls, floor_examples, Slack, slacks}
use Rattle.lp.specs.Starts.{chains, starts}
use Rattle.lp.specs.Corners.{regions, cornered}

pub class_examples_hold : T (every holds class_examples)
unfolding gcd
class_examples_hold = tt

pub pitfalls_hold : T (every holds pitfalls)
unfolding gcd
pitfalls_hold = tt

pub floor_examples_hold : T (every holds floor_examples)
unfolding gcd
floor_examples_hold = tt

pub slacks_hold : map (λ (e : Slack). slack_of e.rule e.at) slacks ≡ map (λ (e : Slack). e.left) slacks
unfolding gcd
slacks_hold = refl

-- the start pair and its count
pub chains-start : T (every starts chains)
unfolding gcd
chains-start = tt

-- the corners of a region
pub regions-cornered : T (every cornered regions)
unfolding gcd
regions-cornered = tt

-- what holds of a table holds of its rows
at_row : (test : Example → Bool) (table : List Example) → T (every test table) → (e : Example) → Memᴰ e table → T (test e)
at_row test [] t = λ e i. absurd (Memᴰ.not-nil i)
at_row test (x ∷ table) t = go (test x) refl t (at_row test table)
  where
    go :
        (b : Bool) →
        test x ≡ b →
        T (elim b [ true ↦ every test table | false ↦ false ]) →
        (T (every test table) → (e : Example) → Memᴰ e table → T (test e)) →
        (e : Example) →
        Memᴰ e (x ∷ table) →
        T (test e)
    go true q u f e i = ⊎_elim (λ p. subst (λ z. T (test z)) (sym p) (subst T (sym q) tt)) (f u e) (Memᴰ.cases_cons i)
    go false q u f e i = absurd u

pub class_example : (e : Example) → Memᴰ e class_examples → T (holds e)
class_example = at_row holds class_examples class_examples_hold
