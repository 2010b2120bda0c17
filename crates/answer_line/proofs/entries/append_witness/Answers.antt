-- `answer_line::entries::append_witness` meets its contract. What each weight prints makes up what the list of named entries prints.
use native.Mathlib.Omega.{arith}
use Rattle.text.proofs.Adding.{fits, followed, spelt}
use Rattle.report.proofs.Witness.{whole-entry, witness-parts}
use Rattle.answer_line.proofs.entries.append_witness.Goals as goal

pub returns : goal.returns
returns c =
    let k = c.args.k in
    let m = c.args.naming in
    spelt
    (witness-parts m k c.count_named.result c.count_named.ensures)
    (followed (fits (omega arith) c.append_number.ensures)
    (followed (whole-entry m k.first k.first_weight (record { sfits = omega arith }) c.append_weighted.ensures)
    (followed (whole-entry m k.second k.second_weight (record { sfits = omega arith }) c.append_weighted-2.ensures)
    (whole-entry m k.third k.third_weight (record { sfits = omega arith }) c.append_weighted-3.ensures))))
