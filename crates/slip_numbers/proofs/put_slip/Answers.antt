-- `slip_numbers::put_slip` meets its contract: 14 numbers, where there is room.
use mathlib.Core.Path.{sym, ◌∙◌, ap}
use lib.ListN.{length}
use lib.Seq.{length-take-le}
use Rattle.slip_numbers.proofs.Laying.{laid_out}
use Rattle.slip_numbers.proofs.put_slip.Goals as goal

pub copy_from_slice-requires : goal.copy_from_slice-requires
copy_from_slice-requires c =
    length-take-le 14 c.args.out.now c.if-out-lt14.false ∙ sym (ap length c.numbers_of.ensures)

pub returns : goal.returns
returns c =
    laid_out c.args.s c.args.out.now c.if-out-lt14.false (c.copy_from_slice.ensures.after ∙ c.numbers_of.ensures)
