-- `engine::seeking::seek` meets its contract: a place of the constraint, or none.
use mathlib.Core.Path.{◌∙◌, sym}
use Prim.Native.Nat.{◌+◌, ◌-◌}
use native.Mathlib.Omega.{arith}
use Rattle.engine.proofs.Places.{sought-first, sought-inner, sought-last}
use Rattle.engine.proofs.Rows.{ring-place}
use Rattle.engine.proofs.seeking.seek.Goals as goal

pub is_between-requires : goal.is_between-requires
is_between-requires c =
    let p = c.requires.seeking in
    let lo = c.args.arc.lo in
    ring-place p.ring p.w-small lo (lo + 1) (omega arith) (omega (arith, p.two)) (omega arith) (omega (arith, p.two))

pub returns-then-is_between : goal.returns-then-is_between
returns-then-is_between c = sought-first c.requires.seeking.two (sym c.is_between.ensures ∙ c.if-is_between.true)

pub is_between-requires-2 : goal.is_between-requires-2
is_between-requires-2 c =
    let p = c.requires.seeking in
    let a = c.args in
    ring-place p.ring p.w-small (a.arc.lo + (a.arc.n - 1)) a.arc.lo (omega arith) (omega (arith, p.two)) (omega arith)
    (omega (arith, p.two))

pub returns-then-is_between-2 : goal.returns-then-is_between-2
returns-then-is_between-2 c = sought-last (omega arith) (omega arith) (sym c.is_between-2.ensures ∙ c.if-is_between-2.true)

pub is_between-requires-then-k-last : goal.is_between-requires-then-k-last
is_between-requires-then-k-last c =
    let p = c.requires.seeking in
    let lo = c.args.arc.lo in
    let k = c.halved-k.result in
    ring-place p.ring p.w-small (lo + k) (lo + k + 1) (omega arith) (omega (arith, c.if-k-last.true)) (omega arith)
    (omega (arith, c.if-k-last.true))

pub returns-then-is_between-3 : goal.returns-then-is_between-3
returns-then-is_between-3 c =
    sought-inner (omega (arith, c.if-k-last.true)) (sym c.is_between-then-k-last.ensures ∙ c.if-is_between-3.true)
