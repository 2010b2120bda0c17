-- `repacker::pack::store` meets its contract: after i turns the first i bytes are copied.
use borrow.Author.Rules.{rules}
use native.Mathlib.Omega.{arith}
use native.Mathlib.Numerals.{add-one}
use Prim.Native.Nat.{◌+◌, ◌<◌}
use mathlib.Core.Path.{◌≡◌, refl, sym, ap, ◌∙◌}
use lib.ListN.{length, length-set, get_or, set}
use lib.Seq.{paste, paste-zero, paste-suc}
use Rattle.repacker.proofs.pack.store.Goals as goal

pub loop-i-init : goal.loop-i-init
loop-i-init c = ((search rules), paste-zero c.args.out.now c.args.at c.args.bytes, refl)

pub loop-i-preserved : goal.loop-i-preserved
loop-i-preserved c =
    let l = c.loop-i in
    let a = c.args in
    let h : a.at + l.i < length a.out.now = omega arith in
    let k : l.i < length a.bytes = omega arith in (
      l.invariant.0,
      ap (λ o. set o (a.at + l.i) (get_or a.bytes l.i 0)) l.invariant.1
          ∙ paste-suc a.out.now a.at a.bytes l.i 0 h k
          ∙ ap (paste a.out.now a.at a.bytes) (sym (add-one l.i)),
      length-set l.out (a.at + l.i) (get_or a.bytes l.i 0)
          ∙ l.invariant.2,
    )

pub returns : goal.returns
returns c =
    let l = c.loop-i in
    let e : l.i ≡ 14 = omega arith in
    l.invariant.1 ∙ ap (paste c.args.out.now c.args.at c.args.bytes) e
