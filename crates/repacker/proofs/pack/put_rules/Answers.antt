-- `repacker::pack::put_rules` meets its contract: after k turns the first k rules are copied; each turn copies one record more
-- (`paste-next`).
use native.Mathlib.Omega.{arith}
use Prim.Native.Nat.{◌+◌, ◌*◌, ◌≤◌}
use mathlib.Core.Path.{◌≡◌, sym, ap, ◌∙◌}
use lib.ListN.{length, take}
use lib.Seq.{paste, paste-zero}
use Rattle.records.specs.Layout.{v2}
use Rattle.repacker.specs.Repacking.{chain_bytes, rules_at}
use Rattle.repacker.proofs.Packed.{length-record_bytes, paste-next, rule-copied, length-chain_bytes, length-rules}
use Rattle.repacker.proofs.pack.put_rules.Goals as goal

pub loop-k-init : goal.loop-k-init
loop-k-init c =
    let a = c.args in
    paste-zero a.out.now 14 (chain_bytes v2 1 (rules_at a.book.now.layout a.book.now.bytes (take a.n a.indices.now)))

pub loop-k-preserved : goal.loop-k-preserved
loop-k-preserved c =
    let l = c.loop-k in
    let a = c.args in
    let L = a.book.now.layout in
    let T = chain_bytes v2 1 (rules_at L a.book.now.bytes (take a.n a.indices.now)) in
    let bytes = c.rule_bytes-bytes.result in
    let all : a.n ≤ length a.indices.now = c.requires.all in
    let long : 14 * l.k ≤ length T =
    omega (
      arith,
      length-chain_bytes v2 1 (rules_at L a.book.now.bytes (take a.n a.indices.now)),
      length-rules L a.book.now.bytes a.indices.now a.n all,
    ) in
    let here : 14 * (l.k + 1) ≡ 14 + 14 * l.k = omega arith in
    let next : 14 * l.k + 14 ≡ 14 * (l.k + 1) = omega arith in
    let copied =
    rule-copied L a.book.now.bytes a.indices.now bytes a.n l.k c.next_of.result
    c.loop-k-test.true all
    c.next_of.ensures c.rule_bytes-bytes.ensures in
    c.store.ensures
    ∙ (λ j. paste (l.invariant j) (here j) bytes 14)
    ∙ paste-next a.out.now T bytes 14 (14 * l.k) 14 (omega arith) long copied
    ∙ ap (paste a.out.now 14 T) next

pub returns : goal.returns
returns c =
    let l = c.loop-k in
    let a = c.args in
    let e : 14 * l.k ≡ 14 * a.n = omega arith in
    l.invariant
    ∙ ap (paste a.out.now 14 (chain_bytes v2 1 (rules_at a.book.now.layout a.book.now.bytes (take a.n a.indices.now)))) e
