-- `session_lines::steps::ruled` meets its contract: every number has room in its field.
use Rattle.session_lines.proofs.Taken.{ruled_1, ruled_2, ruled_3, ruled_4, ruled_5, ruled-read}
use Rattle.session_lines.proofs.steps.ruled.Goals as goal

pub returns-in_err-a : goal.returns-in_err-a
returns-in_err-a c =
    let n = c.args in
    rw c.from_residual.ensures
    (ruled_1 n.kind n.a n.b n.c n.label c.sixteen.ensures c.in_err-a.was)

pub returns-in_err-b : goal.returns-in_err-b
returns-in_err-b c =
    let n = c.args in
    rw c.from_residual-in_err-b.ensures
    (ruled_2 n.kind n.a n.b n.c n.label c.sixteen.ensures c.in_ok-a.was c.sixteen-2.ensures c.in_err-b.was)

pub returns-in_err-c : goal.returns-in_err-c
returns-in_err-c c =
    let n = c.args in
    rw c.from_residual-in_err-c.ensures
    (ruled_3 n.kind n.a n.b n.c n.label c.sixteen.ensures c.in_ok-a.was c.sixteen-2.ensures c.in_ok-b.was
    c.thirty_two.ensures c.in_err-c.was)

pub returns-in_err-kind : goal.returns-in_err-kind
returns-in_err-kind c =
    let n = c.args in
    rw c.from_residual-in_err-kind.ensures
    (ruled_4 n.kind n.a n.b n.c n.label c.sixteen.ensures c.in_ok-a.was c.sixteen-2.ensures c.in_ok-b.was c.thirty_two.ensures c.in_ok-c.was
    c.unsigned_eight.ensures c.in_err-kind.was)

pub returns-in_err-label : goal.returns-in_err-label
returns-in_err-label c =
    let n = c.args in
    rw c.from_residual-in_err-label.ensures
    (ruled_5 n.kind n.a n.b n.c n.label c.sixteen.ensures c.in_ok-a.was c.sixteen-2.ensures c.in_ok-b.was c.thirty_two.ensures c.in_ok-c.was
    c.unsigned_eight.ensures c.in_ok-kind.was c.unsigned_sixteen.ensures c.in_err-label.was)

pub returns : goal.returns
returns c =
    let n = c.args in
    ruled-read n.kind n.a n.b n.c n.label c.sixteen.ensures c.in_ok-a.was c.sixteen-2.ensures c.in_ok-b.was
    c.thirty_two.ensures c.in_ok-c.was
    c.unsigned_eight.ensures c.in_ok-kind.was c.unsigned_sixteen.ensures c.in_ok-label.was
