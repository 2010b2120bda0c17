-- `judging::judge` meets its contract: each way out is one case of `judged`.
use mathlib.Core.Path.{sym, ap, ◌∙◌}
use Rattle.std.specs.Prelude.{Err}
use Rattle.std.proofs.Common.{rules}
use Rattle.book.proofs.Leading.{again_kept, small-over, small-faulty, small-sound, judged-over, judged-held, judged-met, judged-sound}
use Rattle.judging.proofs.judge.Goals as goal

pub returns-then-link-count : goal.returns-then-link-count
returns-then-link-count c =
    let a = c.args in
    record {
      answer =
          ap Err c.of.ensures
          ∙ judged-over a.book.now.layout a.book.now.bytes a.labels.now a.count a.n a.at a.link c.if-link-count.true;
      met = again_kept c.of.result a.labels.now;
      small = small-over a.book.now.layout a.book.now.bytes a.labels.now a.count a.n a.at a.link c.if-link-count.true;
    }

pub returns-in-Err : goal.returns-in-Err
returns-in-Err c =
    let a = c.args in
    record {
      answer =
          ap Err c.of-in-Err.ensures
          ∙ judged-held a.book.now.layout a.book.now.bytes a.labels.now a.count a.n a.at a.link c.if-link-count.false
          (sym c.in-Err.is ∙ c.visit.ensures);
      met = again_kept c.of-in-Err.result a.labels.now;
      small =
          small-faulty a.book.now.layout a.book.now.bytes a.labels.now a.count a.n a.at a.link (sym c.in-Err.is ∙ c.visit.ensures);
    }

pub returns-then-noted : goal.returns-then-noted
returns-then-noted c =
    let a = c.args in
    record {
      answer =
          ap Err c.again.ensures
          ∙ judged-met a.book.now.layout a.book.now.bytes a.labels.now a.count a.n a.at a.link c.if-link-count.false
          c.in-Ok.sound (sym c.in-Ok.is ∙ c.visit.ensures)
          (sym c.noted.ensures ∙ c.if-noted.true);
      met = again_kept c.again.result a.labels.now;
      small =
          small-sound a.book.now.layout a.book.now.bytes a.labels.now a.count a.n a.at a.link (sym c.in-Ok.is ∙ c.visit.ensures)
          (search rules);
    }

pub returns : goal.returns
returns c =
    let a = c.args in
    record {
      answer =
          judged-sound a.book.now.layout a.book.now.bytes a.labels.now a.count a.n a.at a.link c.if-link-count.false
          c.in-Ok.sound (sym c.in-Ok.is ∙ c.visit.ensures)
          (sym c.noted.ensures ∙ c.if-noted.false);
      met = c.note.ensures;
      small =
          small-sound a.book.now.layout a.book.now.bytes a.labels.now a.count a.n a.at a.link (sym c.in-Ok.is ∙ c.visit.ensures)
          (search rules);
    }
