-- `slip_line::append_written` meets its contract. Each arm of the match is given what it is for.
use native.Mathlib.Omega.{arith}
use mathlib.Core.Path.{ap, sym}
use Rattle.text.proofs.Adding.{fits, spelt, roomier}
use Rattle.slip_line.specs.Line.{written_fields}
use Rattle.slip_line.proofs.append_written.Goals as goal

pub returns-in-Ok : goal.returns-in-Ok
unfolding written_fields
returns-in-Ok c = spelt (ap written_fields (sym c.in-Ok.is)) (fits (omega arith) c.append_slip.ensures)

pub returns-in-Err : goal.returns-in-Err
unfolding written_fields
returns-in-Err c =
    spelt (ap written_fields (sym c.in-Err.is)) (roomier (omega arith) (fits (omega arith) c.append_refused.ensures))
