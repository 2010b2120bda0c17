-- `typed_rules::readers::right` meets its contract: the right side, after < or >, where the left side's value is v.
use mathlib.Core.Path.{ap, sym, ◌∙◌}
use lib.ListN.{length}
use Rattle.std.specs.Result.{result_ok}
use Rattle.std.proofs.lemmas.Result.{err_from_is_err_and}
use Rattle.forms.specs.Value.{conclude}
use Rattle.typed_rules.proofs.Rests.{plainly}
use Rattle.typed_rules.proofs.Whole.{not_there, right-more, right-ends, right_fails, right_no}
use Rattle.typed_rules.proofs.readers.right.Goals as goal

pub returns-then-byte_at-ne61 : goal.returns-then-byte_at-ne61
returns-then-byte_at-ne61 c = right_no c.args.text.now c.byte_at.ensures c.if-byte_at-ne61.true

pub returns-in_err-w : goal.returns-in_err-w
returns-in_err-w c =
    let p = err_from_is_err_and c.from_residual.result c.from_residual.ensures.1 in
    let q = not_there c.ok_or.ensures.value c.ok_or.ensures.ok_part c.in_err-w.was in
    rw (p.1, p.2, q.1)
    (right_fails c.args.text.now (sym c.byte_at.ensures ∙ c.if-byte_at-ne61.false) c.after.ensures c.side.ensures q.0)

pub returns-then-is_empty : goal.returns-then-is_empty
returns-then-is_empty c =
    let told = c.ok_or.ensures.ok_part ∙ ap result_ok c.in_ok-w.was in
    right-ends c.args.text.now (sym c.byte_at.ensures ∙ c.if-byte_at-ne61.false) c.after.ensures c.side.ensures told c.skip.ensures
    (sym c.is_empty.ensures ∙ c.if-is_empty.true)
    (plainly (conclude c.args.sense) (length c.after.result.now) c.requires told c.side.ensures.moved c.conclude.ensures)

pub returns-else-is_empty : goal.returns-else-is_empty
returns-else-is_empty c =
    right-more c.args.text.now (sym c.byte_at.ensures ∙ c.if-byte_at-ne61.false) c.after.ensures c.side.ensures
    (c.ok_or.ensures.ok_part ∙ ap result_ok c.in_ok-w.was) c.skip.ensures (sym c.is_empty.ensures ∙ c.if-is_empty.false)
