-- `handed::put_start` meets its contract: the pair is written for an accepted book and a run with room, and nothing else is.
use mathlib.Core.Path.{◌∙◌, ap}
use Rattle.handed.proofs.Buffers.{start-written, start_unwritten, refused_unwritten}
use Rattle.handed.specs.Start.{put_point}
use Rattle.handed.proofs.put_start.Goals as goal

pub returns-in-Err : goal.returns-in-Err
returns-in-Err c = refused_unwritten _ c.in-Err.is c.told.ensures

pub returns-then-out-ge3 : goal.returns-then-out-ge3
returns-then-out-ge3 c =
    start-written _ _ c.in-Ok.is c.if-out-ge3.true (c.put_point.ensures ∙ ap (put_point c.args.out.now) c.unwrap_or.ensures)

pub returns-else-out-ge3 : goal.returns-else-out-ge3
returns-else-out-ge3 c = start_unwritten _ c.in-Ok.is c.if-out-ge3.false
