-- `answer_line::write_line` meets its contract: one book's line is that of its naming. The check finds this alone; it stands here so that
-- another naming is refused with the line that differs.
use Rattle.answer_line.proofs.write_line.Goals as goal

pub returns : goal.returns
returns c = c.write_line_of.ensures
