-- `joint_line::write_joint_line` meets its contract. Each arm of the match is given the answer that it is for.
use Rattle.std.proofs.Common.{arith}
use Rattle.std.proofs.lemmas.Grind.{common_steps}
use Rattle.joint_line.specs.JointLine.{joint_line}
use Rattle.joint_line.proofs.write_joint_line.Goals as goal

pub returns-in-Ok : goal.returns-in-Ok
unfolding joint_line
returns-in-Ok c = grind (arith, common_steps)

pub returns-in-Err-Site : goal.returns-in-Err-Site
unfolding joint_line
returns-in-Err-Site c = grind (arith, common_steps)

pub returns-in-Err-Tenant : goal.returns-in-Err-Tenant
unfolding joint_line
returns-in-Err-Tenant c = grind (arith, common_steps)
