-- `outlining::finish` meets its contract: all points that are left are written, or none.
use Rattle.outlining.proofs.Finishing.{finishes, turned-back}
use Rattle.outlining.proofs.finish.Goals as goal

pub returns-then-list_points : goal.returns-then-list_points
returns-then-list_points c =
    finishes c.args.keys.now c.args.run.now c.args.out.now c.requires c.arrange-count.ensures
    c.list_points.ensures c.if-list_points.true

pub returns-else-list_points : goal.returns-else-list_points
returns-else-list_points c =
    turned-back c.args.keys.now c.args.run.now c.args.out.now c.requires c.arrange-count.ensures
    c.list_points.ensures c.if-list_points.false c.of-refusal.ensures
