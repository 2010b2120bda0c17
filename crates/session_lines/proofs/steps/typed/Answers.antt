-- `session_lines::steps::typed` meets its contract: a label and a text.
use Rattle.session_lines.proofs.Taken.{typed-read, typed_unspaced, typed_unlabelled}
use Rattle.session_lines.proofs.steps.typed.Goals as goal

pub returns-then-byte_at-eq32 : goal.returns-then-byte_at-eq32
returns-then-byte_at-eq32 c =
    typed-read c.args.text.now c.field-found.ensures c.unsigned_sixteen.ensures
    c.in_ok-label.was c.byte_at.ensures c.if-byte_at-eq32.true c.typed_under.ensures

pub returns-else-byte_at-eq32 : goal.returns-else-byte_at-eq32
returns-else-byte_at-eq32 c =
    typed_unspaced c.args.text.now c.field-found.ensures c.unsigned_sixteen.ensures
    c.in_ok-label.was c.byte_at.ensures c.if-byte_at-eq32.false

pub returns-in_err-label : goal.returns-in_err-label
returns-in_err-label c =
    rw c.from_residual.ensures
    (typed_unlabelled c.args.text.now c.field-found.ensures c.unsigned_sixteen.ensures c.in_err-label.was)
