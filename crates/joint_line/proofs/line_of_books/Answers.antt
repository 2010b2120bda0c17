-- `joint_line::line_of_books` meets its contract: the line written is that of the answer to the two books, in their order.
use Rattle.joint_line.proofs.line_of_books.Goals as goal

pub returns : goal.returns
returns c =
    record {
      answer = c.join.result;
      answers = c.join.ensures;
      written = c.write_joint_line.ensures;
    }
