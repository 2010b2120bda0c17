-- `slips::lent::best_in` meets its contract: the weights of a best pair, with the runs lent.
use Rattle.slip.proofs.Sizes.{unread}
use Rattle.slips.proofs.Sizes.{normal-read}
use Rattle.slips.proofs.Lending.{passing_of, weighing_of, best_of}
use Rattle.slips.proofs.lent.best_in.Goals as goal

pub passed-held-requires : goal.passed-held-requires
passed-held-requires c = passing_of c.args.book.now _ _ c.in-Ok.head _ _ c.in-Ok.ensures c.requires

pub optimum_weights-requires : goal.optimum_weights-requires
optimum_weights-requires c =
    let h = c.struct_told-1.given in
    let f = c.in-Ok.head.terms.objective in
    weighing_of (passing_of c.args.book.now _ _ c.in-Ok.head _ _ c.in-Ok.ensures c.requires)
    (normal-read {f = f} (unread {z = f.p} h.0.1) (unread {z = f.q} h.1.0.1)) c.passed-held.ensures

pub returns : goal.returns
returns c =
    let h = c.struct_told-1.given in
    let f = c.in-Ok.head.terms.objective in
    best_of c.args.book.now _ _ c.in-Ok.head _ _ c.in-Ok.ensures c.requires
    (normal-read {f = f} (unread {z = f.p} h.0.1) (unread {z = f.q} h.1.0.1)) c.passed-held.ensures
    c.optimum_weights.ensures
