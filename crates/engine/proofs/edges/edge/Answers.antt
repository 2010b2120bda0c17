-- `engine::edges::edge` meets its contract: the edge that an index names.
use lib.ListN.{get_or}
use Rattle.engine.proofs.Rows.{edge-room, edge-horizon, edge-entry}
use Rattle.engine.proofs.edges.edge.Goals as goal

pub returns-then-i-lt1 : goal.returns-then-i-lt1
returns-then-i-lt1 c =
    edge-horizon c.args.run.now
    (get_or c.args.ring.now c.args.k 0) c.if-i-lt1.true

pub entry-requires : goal.entry-requires
entry-requires c = edge-room c.requires c.if-i-lt1.false

pub returns : goal.returns
returns c =
    edge-entry c.args.run.now
    (get_or c.args.ring.now c.args.k 0) c.if-i-lt1.false
    c.entry.ensures
