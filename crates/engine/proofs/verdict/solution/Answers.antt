-- `engine::verdict::solution` meets its contract.
use Rattle.engine.proofs.Steps.{state_parts}
use Rattle.engine.proofs.Solutions.{solution-ended, solution-going}
use Rattle.engine.proofs.verdict.solution.Goals as goal

pub said-requires : goal.said-requires
said-requires c =
    record { functional = c.requires.objective; rays = (state_parts c.requires.state_small c.in-Going.is).1 }

pub returns-in-Ended : goal.returns-in-Ended
returns-in-Ended c = let a = c.args in solution-ended a.objective a.walk c.in-Ended.is

pub returns-in-Going : goal.returns-in-Going
returns-in-Going c =
    let a = c.args in
    solution-going a.objective a.walk c.in-Going.is c.said.ensures
