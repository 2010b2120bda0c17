-- `steps::plan::lay` meets its contract: after i turns the first i rules are laid out.
use native.Mathlib.Omega.{arith}
use Prim.Native.Nat.{◌<◌}
use mathlib.Core.Path.{◌≡◌, refl, ap, ◌∙◌}
use lib.Seq.{get_or-take, length-take-le}
use Rattle.records.specs.Planned.{planned_rule}
use Rattle.sessions.specs.Sessions.{no_rule}
use Rattle.sessions.specs.Laying.{laid_from}
use Rattle.sessions.proofs.Laid.{laid_next}
use Rattle.steps.proofs.plan.lay.Goals as goal

pub loop-i-init : goal.loop-i-init
loop-i-init c = (c.requires.room, refl)

pub put-requires : goal.put-requires
put-requires c =
    let l = c.loop-i in
    let s = c.args.session in
    let is = c.requires.session in
    let many = length-take-le s.n s.rules (omega (arith, is.count, is.size)) in
    let less : l.i < s.n = omega (arith, many, c.loop-i-test.true) in
    record { room = omega (arith, is.count, l.invariant.0, less); few = omega (arith, is.count, less) }

pub loop-i-preserved : goal.loop-i-preserved
loop-i-preserved c =
    let l = c.loop-i in
    let s = c.args.session in
    let is = c.requires.session in
    let many = length-take-le s.n s.rules (omega (arith, is.count, is.size)) in
    let less : l.i < s.n = omega (arith, many, c.loop-i-test.true) in
    let put = c.put in (
      put.auto.run ∙ l.invariant.0,
      laid_next c.args.run.now s.rules l.i l.invariant.1
          (c.constraint.ensures ∙ ap planned_rule (get_or-take s.n s.rules l.i no_rule less)) put.ensures,
    )

pub returns : goal.returns
returns c =
    let l = c.loop-i in
    let s = c.args.session in
    let is = c.requires.session in
    let many = length-take-le s.n s.rules (omega (arith, is.count, is.size)) in
    let all : l.i ≡ s.n = omega (arith, many, l.auto.i-end, c.loop-i-test.false) in
    l.invariant.1 ∙ ap (laid_from c.args.run.now s.rules) all
