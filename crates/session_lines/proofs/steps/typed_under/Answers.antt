-- `session_lines::steps::typed_under` meets its contract: what a text reads as.
use mathlib.Core.Path.{sym}
use Rattle.session_lines.proofs.Taken.{ranged, read-rule, read-refused}
use Rattle.session_lines.proofs.steps.typed_under.Goals as goal

pub named-requires : goal.named-requires
named-requires c = ranged _ (sym c.read_rule.ensures) c.in-Ok.is

pub returns-in-Ok : goal.returns-in-Ok
returns-in-Ok c = read-rule _ _ c.read_rule.ensures c.in-Ok.is c.named.ensures

pub returns-in-Err : goal.returns-in-Err
returns-in-Err c = read-refused _ _ c.read_rule.ensures c.in-Err.is c.refusal.ensures
