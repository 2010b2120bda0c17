-- `answer_line::entries::append_entry` meets its contract. The arm of the match is the case of `entry`.
use native.Mathlib.Omega.{arith}
use Rattle.text.proofs.Adding.{fits, roomier, spelt}
use Rattle.report.proofs.Witness.{floor-x, floor-y, entry-rule}
use Rattle.answer_line.proofs.entries.append_entry.Goals as goal

pub returns-in-0 : goal.returns-in-0
returns-in-0 c =
    roomier (omega arith) (spelt (floor-x c.args.naming c.args.code c.in-0.is) (fits (omega arith) c.append_word.ensures))

pub returns-in-1 : goal.returns-in-1
returns-in-1 c =
    roomier (omega arith) (spelt (floor-y c.args.naming c.args.code c.in-1.is) (fits (omega arith) c.append_word-in-1.ensures))

pub returns-in_default : goal.returns-in_default
returns-in_default c =
    spelt (entry-rule c.args.naming c.args.code (λ e. absurd (omega arith)) (λ e. absurd (omega arith))) c.append_rule.ensures
