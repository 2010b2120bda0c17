-- `engine::insert::insert` meets its contract: a constraint enters the ring.
use native.Mathlib.Omega.{arith}
use Rattle.engine.proofs.Insertions.{stood, found, insert-seeking, insert-pair, insert-seen, insert-same}
use Rattle.engine.proofs.Insertions.{insert_putting, insert-cut}
use Rattle.engine.proofs.insert.insert.Goals as goal

pub seek-requires : goal.seek-requires
seek-requires c = insert-seeking c.requires c.ring_of.ensures c.in-Some.is c.meet-w.ensures

pub following-requires : goal.following-requires
following-requires c =
    record {
      inside = (found c.requires c.ring_of.ensures c.in-Some.is c.meet-w.ensures c.seek.ensures c.in-Some-seek.is).inside;
      room = omega (arith, (stood c.requires c.ring_of.ensures c.in-Some.is).ring.fits);
    }

pub corner_keeps-requires : goal.corner_keeps-requires
corner_keeps-requires c =
    insert-pair c.requires c.ring_of.ensures c.in-Some.is c.meet-w.ensures c.seek.ensures c.in-Some-seek.is c.following.ensures

pub returns-then-corner_keeps : goal.returns-then-corner_keeps
returns-then-corner_keeps c =
    insert-same c.requires c.ring_of.ensures c.in-Some.is c.meet-w.ensures c.seek.ensures c.in-Some-seek.is
    (insert-seen c.requires c.ring_of.ensures c.in-Some.is c.meet-w.ensures c.seek.ensures c.in-Some-seek.is c.following.ensures
    c.corner_keeps.ensures c.if-corner_keeps.true)

pub cut-requires : goal.cut-requires
cut-requires c =
    insert_putting c.requires c.ring_of.ensures c.in-Some.is c.meet-w.ensures c.seek.ensures c.in-Some-seek.is c.turn_to.ensures
    c.in-Some-turn_to.is

pub returns-in-Some-cut : goal.returns-in-Some-cut
returns-in-Some-cut c =
    insert-cut c.requires c.ring_of.ensures c.in-Some.is c.meet-w.ensures c.seek.ensures c.in-Some-seek.is c.turn_to.ensures
    c.in-Some-turn_to.is
    (insert-seen c.requires c.ring_of.ensures c.in-Some.is c.meet-w.ensures c.seek.ensures c.in-Some-seek.is c.following.ensures
    c.corner_keeps.ensures c.if-corner_keeps.false)
    c.cut.ensures c.in-Some-cut.is
