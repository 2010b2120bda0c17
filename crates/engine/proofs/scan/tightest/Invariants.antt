-- `engine::scan::tightest` meets its contract: the tightest point on a line among the first n entries.
use Rattle.engine.proofs.Passes.{Tightest}
use Rattle.engine.proofs.scan.tightest.Given as goal

abbrev pub invariant-loop-i : goal.invariant-loop-i
invariant-loop-i l = Tightest l.entries l.n l.line l.held l.i
