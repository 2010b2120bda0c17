-- `checking::facts::allowed` meets its contract: an allowed pair keeps both floors and every rule.
use mathlib.Core.Path.{sym, ◌∙◌, subst}
use Rattle.lp.specs.Range.{SmallConstraint}
use Rattle.slip.specs.Runs.{entries}
use Rattle.slip.proofs.Shares.{floor_x-small, floor_y-small}
use Rattle.slip.proofs.Judging.{allowed_all, allowed-not-x, allowed-not-y}
use Rattle.checking.proofs.Exact.{placed}
use Rattle.checking.proofs.facts.allowed.Goals as goal

pub invariant_of-keeps : goal.invariant_of-keeps
invariant_of-keeps c =
    record {
      small =
          placed (record {
            rule = subst SmallConstraint (sym c.floor_x-x.ensures) (floor_x-small c.requires.floors-small);
            pair = c.requires.pair;
          });
    }

pub invariant_of-keeps-then-keeps : goal.invariant_of-keeps-then-keeps
invariant_of-keeps-then-keeps c =
    record {
      small =
          placed (record {
            rule = subst SmallConstraint (sym c.floor_y-y.ensures) (floor_y-small c.requires.floors-small);
            pair = c.requires.pair;
          });
    }

pub returns-then-keeps-2 : goal.returns-then-keeps-2
returns-then-keeps-2 c =
    let a = c.args in
    allowed_all a.floors (entries a.rules.now 0 a.n) a.v c.floor_x-x.ensures (sym c.keeps.ensures ∙ c.if-keeps.true)
    c.floor_y-y.ensures (sym c.keeps-then-keeps.ensures ∙ c.if-keeps-2.true) c.keeps_all.ensures

pub returns-else-keeps-2 : goal.returns-else-keeps-2
returns-else-keeps-2 c =
    let a = c.args in
    allowed-not-y a.floors (entries a.rules.now 0 a.n) a.v c.floor_x-x.ensures (sym c.keeps.ensures ∙ c.if-keeps.true)
    c.floor_y-y.ensures (sym c.keeps-then-keeps.ensures ∙ c.if-keeps-2.false)

pub returns-else-keeps : goal.returns-else-keeps
returns-else-keeps c =
    let a = c.args in
    allowed-not-x a.floors (entries a.rules.now 0 a.n) a.v c.floor_x-x.ensures (sym c.keeps.ensures ∙ c.if-keeps.false)
