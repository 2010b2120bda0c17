-- `typed_rules::readers::read_text` meets its contract: a whole text of any length.
use mathlib.Core.Path.{ap, ◌∙◌}
use lib.ListN.{length}
use Rattle.std.specs.Result.{result_ok}
use Rattle.std.proofs.lemmas.Result.{err_from_is_err_and}
use Rattle.typed_rules.proofs.Rests.{reached}
use Rattle.typed_rules.proofs.Whole.{not_there, text-got, text_fails}
use Rattle.typed_rules.proofs.readers.read_text.Goals as goal

pub relation-requires : goal.relation-requires
relation-requires c = (reached (length c.args.text.now) (c.ok_or.ensures.ok_part ∙ ap result_ok c.in_ok-v.was) c.side.ensures.moved).small

pub returns : goal.returns
returns c = text-got (c.ok_or.ensures.ok_part ∙ ap result_ok c.in_ok-v.was) c.side.ensures c.relation.ensures

pub returns-in_err-v : goal.returns-in_err-v
returns-in_err-v c =
    let p = err_from_is_err_and c.from_residual.result c.from_residual.ensures.1 in
    let q = not_there c.ok_or.ensures.value c.ok_or.ensures.ok_part c.in_err-v.was in
    rw (p.1, p.2, q.1) (text_fails q.0 c.side.ensures)
