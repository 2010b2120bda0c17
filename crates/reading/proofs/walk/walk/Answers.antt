-- `reading::walk::walk` meets its contract: the loop's invariant is `Underway`. The measure is the records that are not visited.
use native.Mathlib.Omega.{arith}
use Prim.Native.Nat.{◌<◌}
use Rattle.std.proofs.Common.{rules}
use mathlib.Core.Path.{◌≡◌, sym, ap, ◌∙◌}
use Rattle.records.specs.declared.Heading.{Heading}
use Rattle.std.specs.Prelude.{Result, Ok, Err}
use Rattle.answers.specs.declared.Refusal.{Refusal}
use Rattle.records.specs.declared.Sound.{Sound}
use Rattle.book.specs.declared.Head.{Head}
use Rattle.book.specs.Runs.{put_entry}
use Rattle.book.specs.Judging.{labels_after}
use Rattle.book.proofs.Underway.{starts, finished, chain-ends, chain_length, more_room, count-few, steps, told, said-heading}
use Rattle.reading.proofs.walk.walk.Goals as goal

pub loop-link-init : goal.loop-link-init
loop-link-init c = starts c.args.indices.now c.args.rules.now c.requires

pub returns-in_err-sound : goal.returns-in_err-sound
returns-in_err-sound c =
    let w = c.loop-link.invariant in
    finished w (told w c.requires c.loop-link-test.true c.judge.ensures c.in_err-sound.was) (search rules)

pub put_entry-requires : goal.put_entry-requires
put_entry-requires c =
    let w = c.loop-link.invariant in
    let count = ap (λ (h : Heading). h.count) (said-heading c.requires) in
    let small : c.args.heading.count < 65536 = search rules in
    omega (arith, small, count, more_room w c.loop-link-test.true (told w c.requires c.loop-link-test.true c.judge.ensures c.in_ok-sound.was))

pub overflow_add-n : goal.overflow_add-n
overflow_add-n c =
    let w = c.loop-link.invariant in
    let count = ap (λ (h : Heading). h.count) (said-heading c.requires) in
    let small : c.args.heading.count < 65536 = search rules in
    omega (arith, small, count, more_room w c.loop-link-test.true (told w c.requires c.loop-link-test.true c.judge.ensures c.in_ok-sound.was))

pub loop-link-smaller : goal.loop-link-smaller
loop-link-smaller c =
    let w = c.loop-link.invariant in
    omega (arith, more_room w c.loop-link-test.true (told w c.requires c.loop-link-test.true c.judge.ensures c.in_ok-sound.was), count-few w)

pub loop-link-preserved : goal.loop-link-preserved
loop-link-preserved c =
    let l = c.loop-link in
    let w = l.invariant in
    steps w c.loop-link-test.true (told w c.requires c.loop-link-test.true c.judge.ensures c.in_ok-sound.was)
    (c.judge.ensures.met ∙ ap (λ (r : Result Sound Refusal). labels_after r l.labels) c.in_ok-sound.was)
    c.put_record.ensures
    (c.put_entry.ensures ∙ ap (put_entry l.rules l.n) c.constraint.ensures)

pub returns : goal.returns
returns c =
    let w = c.loop-link.invariant in
    let t = ap (λ (h : Heading). h.terms) (sym (said-heading c.requires)) in
    finished w (chain-ends w c.loop-link-test.false)
    (ap Ok (λ j. record { terms = t j; n = chain_length w j }))
