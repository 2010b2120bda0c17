-- `region::frame::frame` meets its contract: the floors before the rules, and the horizon after them.
use mathlib.Core.Path.{◌∙◌}
use native.Mathlib.Omega.{arith}
use Rattle.engine.proofs.Tests.{floors-laid}
use Rattle.region.proofs.Frames.{framed-by}
use Rattle.region.proofs.frame.frame.Goals as goal

pub returns : goal.returns
returns c =
    let f = c.args.floors in
    framed-by f c.args.run.now c.args.n
    (c.lay_floors.ensures.run
    ∙ floors-laid f c.args.run.now c.requires.floors-small (omega (arith, c.requires.room))) c.put_entry.ensures
