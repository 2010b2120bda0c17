-- `region::insert::insert` meets its contract: a constraint enters the ring.
use Rattle.region.proofs.Cuts.{insert-seeking, insert-pair, insert-kept, insert_putting, insert-cut}
use Rattle.region.proofs.insert.insert.Goals as goal

pub seek-lo-requires : goal.seek-lo-requires
seek-lo-requires c = insert-seeking c.requires c.in_ok-arc.was c.entry-line.ensures

pub corner_keeps-requires : goal.corner_keeps-requires
corner_keeps-requires c = insert-pair c.requires c.in_ok-arc.was c.entry-line.ensures c.seek-lo.ensures

pub returns-then-corner_keeps : goal.returns-then-corner_keeps
returns-then-corner_keeps c =
    insert-kept c.requires c.in_ok-arc.was c.entry-line.ensures c.seek-lo.ensures c.corner_keeps.ensures c.if-corner_keeps.true

pub cut-requires : goal.cut-requires
cut-requires c = insert_putting c.requires c.in_ok-arc.was c.entry-line.ensures c.seek-lo.ensures c.turn-lo.ensures

pub returns : goal.returns
returns c =
    insert-cut c.requires c.in_ok-arc.was c.entry-line.ensures c.seek-lo.ensures c.turn-lo.ensures c.corner_keeps.ensures
    c.if-corner_keeps.false c.cut.ensures
