-- `check_line::check_line` meets its contract.
use mathlib.Core.Path.{subst}
use Rattle.slip_reader.specs.Reading.{Reads}
use Rattle.check_line.proofs.Answers.{checks_none, checks_given}
use Rattle.check_line.proofs.check_line.Goals as goal

pub returns-in-None : goal.returns-in-None
returns-in-None c =
    checks_none c.args.book.now c.args.text.now
    (subst (Reads c.args.text.now) c.in-None.is c.read_slip.ensures) c.check_numbers.ensures

pub returns-in-Some : goal.returns-in-Some
returns-in-Some c =
    checks_given c.args.book.now c.args.text.now c.in-Some.s
    (subst (Reads c.args.text.now) c.in-Some.is c.read_slip.ensures)
    c.check.ensures
