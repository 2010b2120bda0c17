-- `repacker::repack_in` meets its contract: refused as read; without room; or the header and then the rules (`packs-packed`).
use native.Mathlib.Omega.{arith}
use mathlib.Core.Path.{ap, ◌∙◌}
use mathlib.Core.List.{◌++◌}
use lib.ListN.{length, drop, length-append, length-take, length-drop}
use Rattle.std.proofs.Common.{rules}
use Rattle.book.proofs.Said.{said-refused}
use Rattle.repacker.proofs.Packed.{length-record_bytes}
use Rattle.repacker.proofs.Output.{chain-accepted, packs-refused, packs-declined, packs-packed}
use Rattle.repacker.proofs.repack_in.Goals as goal

pub returns-in_err-head : goal.returns-in_err-head
returns-in_err-head c =
    let a = c.args in
    packs-refused a.book.now.layout a.book.now.bytes a.out.now (said-refused c.in_err-head.ensures) (search rules)

pub overflow_add-filled : goal.overflow_add-filled
overflow_add-filled c = omega (arith, (chain-accepted c.in_ok-head.ensures c.requires.few c.requires.most).few)

pub overflow_mul-filled : goal.overflow_mul-filled
overflow_mul-filled c = omega (arith, (chain-accepted c.in_ok-head.ensures c.requires.few c.requires.most).few)

pub returns-then-out-filled : goal.returns-then-out-filled
returns-then-out-filled c =
    let a = c.args in
    let chain = chain-accepted c.in_ok-head.ensures c.requires.few c.requires.most in
    packs-declined a.book.now.layout a.book.now.bytes a.out.now chain c.if-out-filled.true c.of.ensures

pub overflow_cast-rules : goal.overflow_cast-rules
overflow_cast-rules c = omega (arith, (chain-accepted c.in_ok-head.ensures c.requires.few c.requires.most).few)

pub put_rules-requires : goal.put_rules-requires
put_rules-requires c =
    let chain = chain-accepted c.in_ok-head.ensures c.requires.few c.requires.most in
    let out = c.args.out.now in
    let copy = c.copy_from_slice in
    record {
      few = chain.few;
      all = chain.room;
      room =
          omega (
            arith,
            c.if-out-filled.false,
            length-append copy.new.self (drop 14 out),
            copy.ensures.len,
            length-take 14 out,
            length-drop 14 out,
          );
    }

pub returns : goal.returns
returns c =
    let a = c.args in
    let chain = chain-accepted c.in_ok-head.ensures c.requires.few c.requires.most in
    packs-packed a.book.now.layout a.book.now.bytes a.out.now chain c.if-out-filled.false
    c.next_of.result c.header_bytes.result _ _
    c.next_of.ensures c.header_bytes.ensures
    (ap length c.header_bytes.ensures ∙ length-record_bytes _ _ _ _ _ _ _)
    (ap (λ l. l ++ drop 14 a.out.now) c.copy_from_slice.ensures.after)
    c.put_rules.ensures
