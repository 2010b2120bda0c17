-- `region::list::note` meets its contract: one corner, if it is a point.
use mathlib.Core.Path.{sym, ◌∙◌, ap}
use lib.IntN.{pos}
use lib.Signed.{lt_z}
use Rattle.fraction.proofs.Quotients.{unread}
use Rattle.region.proofs.Listings.{noted-point, noted-none}
use Rattle.region.proofs.list.note.Goals as goal

pub returns-then-v-gt0 : goal.returns-then-v-gt0
returns-then-v-gt0 c =
    let v = c.meet-v in
    noted-point v.ensures
    (sym (ap (lt_z (pos 0)) (unread {z = v.result.d} c.struct_told-1.given.1.1.0.1)) ∙ c.if-v-gt0.true)
    c.reduce.ensures c.put_point.ensures

pub returns : goal.returns
returns c =
    let v = c.meet-v in
    noted-none v.ensures
    (sym (ap (lt_z (pos 0)) (unread {z = v.result.d} c.struct_told-1.given.1.1.0.1)) ∙ c.if-v-gt0.false)
