-- `laying::order::frame` meets its contract: nothing leaves 64 bits.
use Rattle.ints.proofs.Machine.{sizes}
use Rattle.laying.proofs.order.frame.Goals as goal

pub overflow_sub-result : goal.overflow_sub-result
overflow_sub-result c = let w = c.requires.lx_small in search sizes depth 8

pub overflow_sub-result-2 : goal.overflow_sub-result-2
overflow_sub-result-2 c =
    let w = c.requires.lx_small in
    let v = c.requires.ly_small in
    search sizes depth 8

pub overflow_sub-result-3 : goal.overflow_sub-result-3
overflow_sub-result-3 c = let w = c.requires.lx_small in search sizes depth 8

pub overflow_sub-result-4 : goal.overflow_sub-result-4
overflow_sub-result-4 c = let w = c.requires.ly_small in search sizes depth 8
