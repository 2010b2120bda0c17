-- `records::layouts::fields_two` meets its contract: each field is read at its offset (`fields_read`).
use Rattle.records.specs.Layout.{v2}
use Rattle.records.proofs.Numbers.{one_byte}
use Rattle.records.proofs.Offsets.{fields_read}
use Rattle.records.proofs.layouts.fields_two.Goals as goal

pub returns : goal.returns
returns c =
    let s = c.args.s.now in
    let at = c.args.at in
    fields_read v2 s at c.number2.ensures (one_byte s _) (one_byte s _)
    c.number2-2.ensures c.number2-3.ensures c.number2-4.ensures
    c.number4.ensures
