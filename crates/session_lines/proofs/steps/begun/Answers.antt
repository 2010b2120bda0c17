-- `session_lines::steps::begun` meets its contract: numbers of sixteen bits.
use Rattle.session_lines.proofs.Taken.{begun_1, begun_2, begun_3, begun_4, begun-read}
use Rattle.session_lines.proofs.steps.begun.Goals as goal

pub returns-in_err-p : goal.returns-in_err-p
returns-in_err-p c =
    let n = c.args in
    rw c.from_residual.ensures (begun_1 n.p n.q n.lx n.ly c.sixteen.ensures c.in_err-p.was)

pub returns-in_err-q : goal.returns-in_err-q
returns-in_err-q c =
    let n = c.args in
    rw c.from_residual-in_err-q.ensures
    (begun_2 n.p n.q n.lx n.ly c.sixteen.ensures c.in_ok-p.was c.sixteen-2.ensures c.in_err-q.was)

pub returns-in_err-lx : goal.returns-in_err-lx
returns-in_err-lx c =
    let n = c.args in
    rw c.from_residual-in_err-lx.ensures
    (begun_3 n.p n.q n.lx n.ly c.sixteen.ensures c.in_ok-p.was c.sixteen-2.ensures c.in_ok-q.was c.sixteen-3.ensures c.in_err-lx.was)

pub returns-in_err-ly : goal.returns-in_err-ly
returns-in_err-ly c =
    let n = c.args in
    rw c.from_residual-in_err-ly.ensures
    (begun_4 n.p n.q n.lx n.ly c.sixteen.ensures c.in_ok-p.was c.sixteen-2.ensures c.in_ok-q.was c.sixteen-3.ensures c.in_ok-lx.was
    c.sixteen-4.ensures c.in_err-ly.was)

pub returns : goal.returns
returns c =
    let n = c.args in
    begun-read n.p n.q n.lx n.ly c.sixteen.ensures c.in_ok-p.was c.sixteen-2.ensures c.in_ok-q.was c.sixteen-3.ensures c.in_ok-lx.was
    c.sixteen-4.ensures c.in_ok-ly.was
