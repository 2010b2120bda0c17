-- `records::layouts::fields_one` meets its contract: each field is read at its offset (`fields_read`).
use mathlib.Core.Path.{sym}
use Rattle.records.specs.Layout.{v1}
use Rattle.records.proofs.Numbers.{one_byte, number-none}
use Rattle.records.proofs.Offsets.{fields_read}
use Rattle.records.proofs.layouts.fields_one.Goals as goal

pub returns : goal.returns
returns c =
    let s = c.args.s.now in
    let at = c.args.at in
    fields_read v1 s at (one_byte s at) (one_byte s _) (sym (number-none _))
    c.number2.ensures c.number2-2.ensures c.number2-3.ensures
    c.number4.ensures
