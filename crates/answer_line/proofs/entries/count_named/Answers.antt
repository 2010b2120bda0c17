-- `answer_line::entries::count_named` meets its contract. Each weight that is not 0 names one entry.
use native.Mathlib.Omega.{arith}
use Rattle.ints.proofs.Bits.{read}
use Rattle.report.proofs.Witness.{at_most_one, counted}
use Rattle.answer_line.proofs.entries.count_named.Goals as goal

pub overflow_add-result : goal.overflow_add-result
overflow_add-result c =
    omega (arith, at_most_one (read c.args.k.first_weight), at_most_one (read c.args.k.second_weight))

pub overflow_add-result-2 : goal.overflow_add-result-2
overflow_add-result-2 c =
    let k = c.args.k in
    omega (arith, at_most_one (read k.first_weight), at_most_one (read k.second_weight), at_most_one (read k.third_weight))

pub returns : goal.returns
returns c =
    counted c.args.k c.used.result c.used-2.result c.used-3.result
    (record { sfits = omega arith })
    (record { sfits = omega arith })
    (record { sfits = omega arith })
    c.used.ensures c.used-2.ensures c.used-3.ensures
