-- `slips::pass::passed` meets its contract: what the pass over a chain holds in the end.
use Rattle.slip.proofs.Sizes.{unread}
use Rattle.slips.proofs.Sizes.{passing_flooring, normal-read, turned-start}
use Rattle.slips.proofs.Sizes.{turned-room, turned_asks, turned-step, turned-end}
use Rattle.slips.proofs.pass.passed.Goals as goal

pub floors_held-held-requires : goal.floors_held-held-requires
floors_held-held-requires c = passing_flooring c.requires (normal-read {f = c.args.f} (unread
    c.struct_told-1.given.0.1) (unread c.struct_told-1.given.1.0.1))

pub loop-i-init : goal.loop-i-init
loop-i-init c =
    let h = c.struct_told-1.given in
    turned-start c.requires (normal-read {f = c.args.f} (unread h.0.1) (unread
    h.1.0.1)) c.floors_held-held.ensures

pub side_at-requires : goal.side_at-requires
side_at-requires c =
    let h = c.struct_told-1.given in
    turned-room c.requires (normal-read {f = c.args.f}
    (unread h.0.1) (unread h.1.0.1)) c.loop-i-test.true

pub turned-held-requires : goal.turned-held-requires
turned-held-requires c =
    let h = c.struct_told-1.given in
    turned_asks c.requires
    (normal-read {f = c.args.f} (unread h.0.1) (unread h.1.0.1))
    c.loop-i.invariant
    c.loop-i-test.true c.side_at.ensures

pub loop-i-preserved : goal.loop-i-preserved
loop-i-preserved c =
    let h = c.struct_told-1.given in
    turned-step c.requires
    (normal-read {f = c.args.f} (unread h.0.1) (unread h.1.0.1))
    c.loop-i.invariant
    c.loop-i-test.true c.side_at.ensures c.turned-held.ensures

pub returns : goal.returns
returns c =
    let h = c.struct_told-1.given in
    turned-end c.requires (normal-read {f = c.args.f}
    (unread h.0.1) (unread h.1.0.1)) c.loop-i.invariant c.loop-i-test.false
    c.floors_held-held.ensures
