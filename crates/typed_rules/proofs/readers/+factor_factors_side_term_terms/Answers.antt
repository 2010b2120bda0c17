-- The proof of the cycle of calls {factor, factors, side, term, terms}. What a case of the code gives is a lemma of proofs/Reading.antt or
-- proofs/Following.antt, and that a call is given less of the text is one of proofs/Rests.antt. Here are the paths to their facts.
use mathlib.Core.Path.{sym, ◌∙◌}
use native.Mathlib.Omega.{arith}
use lib.ListN.{length}
use Rattle.forms.specs.Value.{sum, difference, product}
use Rattle.language.proofs.Chain.{one-factor, one-term, by_star, by_plus, by-minus}
use Rattle.typed_rules.proofs.Rests.{item, falls, less, reached, plainly}
use Rattle.typed_rules.proofs.Reading.{reads-number, reads-x, reads_y, reads-minus, minus_fails, reads_deep, reads-group, group_fails, reads_other}
use Rattle.typed_rules.proofs.Following.{reads_whole, whole_fails, reads-joined, joined_fails, factors-stop, terms-stop}
use Rattle.typed_rules.proofs.readers.+factor_factors_side_term_terms.Goals as goal

-- factor: a number, x, y, a minus, a parenthesis, or nothing of these
pub factor-factor-requires : goal.factor-factor-requires
factor-factor-requires t c = (
  less c.args.text.now c.after-rest.result.now 0 c.decreases
      (falls (item c.skip-item.ensures c.byte_at-b.ensures) c.after-rest.ensures (omega (arith, c.in-45.is))) (omega arith),
  tt,
)

pub factor-side-requires : goal.factor-side-requires
factor-side-requires t c = (
  less c.args.text.now c.after-rest.result.now 2 c.decreases
      (falls (item c.skip-item.ensures c.byte_at-b.ensures) c.after-rest.ensures (omega (arith, c.in-40.is))) (omega arith),
  tt,
)

pub factor-returns-then-digit : goal.factor-returns-then-digit
factor-returns-then-digit t c =
    reads-number (item c.skip-item.ensures c.byte_at-b.ensures) (sym c.digit.ensures ∙ c.if-digit.true) c.number.ensures

pub factor-returns-in-120 : goal.factor-returns-in-120
factor-returns-in-120 t c = reads-x (item c.skip-item.ensures c.byte_at-b.ensures) c.in-120.is c.after-rest.ensures

pub factor-returns-in-121 : goal.factor-returns-in-121
factor-returns-in-121 t c = reads_y (item c.skip-item.ensures c.byte_at-b.ensures) c.in-121.is c.after-rest.ensures

pub factor-returns-in_ok-v-in-45 : goal.factor-returns-in_ok-v-in-45
factor-returns-in_ok-v-in-45 t c =
    reads-minus (item c.skip-item.ensures c.byte_at-b.ensures) c.in-45.is c.after-rest.ensures c.factor.ensures
    c.in_ok-v-in-45.was c.negated.ensures

pub factor-returns-in_err-v-in-45 : goal.factor-returns-in_err-v-in-45
factor-returns-in_err-v-in-45 t c =
    rw c.from_residual.ensures
    (minus_fails (item c.skip-item.ensures c.byte_at-b.ensures) c.in-45.is c.after-rest.ensures c.factor.ensures
    c.in_err-v-in-45.was)

pub factor-returns-in_err-checked_sub-in-40 : goal.factor-returns-in_err-checked_sub-in-40
factor-returns-in_err-checked_sub-in-40 t c =
    rw c.from_residual-in_err-checked_sub-in-40.ensures
    (reads_deep (item c.skip-item.ensures c.byte_at-b.ensures) c.in-40.is (omega (arith, c.in_err-checked_sub-in-40.ensures)))

pub factor-returns-in_ok-v-in-40 : goal.factor-returns-in_ok-v-in-40
factor-returns-in_ok-v-in-40 t c =
    reads-group (item c.skip-item.ensures c.byte_at-b.ensures) c.in-40.is (omega (arith, c.in_ok-checked_sub-in-40.ensures))
    c.after-rest.ensures c.side.ensures c.in_ok-v-in-40.was c.closed.ensures

pub factor-returns-in_err-v-in-40 : goal.factor-returns-in_err-v-in-40
factor-returns-in_err-v-in-40 t c =
    rw c.from_residual-in_err-v-in-40.ensures
    (group_fails (item c.skip-item.ensures c.byte_at-b.ensures) c.in-40.is (omega (arith, c.in_ok-checked_sub-in-40.ensures))
    c.after-rest.ensures c.side.ensures c.in_err-v-in-40.was)

pub factor-returns-in_default-2 : goal.factor-returns-in_default-2
factor-returns-in_default-2 t c =
    reads_other (item c.skip-item.ensures c.byte_at-b.ensures) (sym c.digit.ensures ∙ c.if-digit.false) (λ e. omega arith)
    (λ e. omega arith) (λ e. omega arith) (λ e. omega arith)

-- factors: a star and what follows, or the end
pub factors-factor-requires : goal.factors-factor-requires
factors-factor-requires t c = (
  less c.args.text.now c.after.result.now 0 c.decreases
      (falls (item c.skip-item.ensures c.byte_at.ensures) c.after.ensures (omega (arith, c.if-byte_at-eq42.true))) (omega arith),
  tt,
)

pub factors-factors-requires : goal.factors-factors-requires
factors-factors-requires t c =
    let p = falls (item c.skip-item.ensures c.byte_at.ensures) c.after.ensures (omega (arith, c.if-byte_at-eq42.true)) in
    let q = reached (length c.after.result.now) c.in_ok-w.was c.factor.ensures.moved in
    (less c.args.text.now c.in_ok-w.rest.now 0 c.decreases (omega (arith, p, q.short)) (omega arith), c.product.ensures.small)

pub factors-returns-in_ok-w : goal.factors-returns-in_ok-w
factors-returns-in_ok-w t c =
    let told = plainly product (length c.after.result.now) c.requires c.in_ok-w.was c.factor.ensures.moved c.product.ensures.same in
    reads-joined by_star (item c.skip-item.ensures c.byte_at.ensures) c.if-byte_at-eq42.true c.after.ensures c.in_ok-w.was
    c.factor.ensures told c.factors.ensures

pub factors-returns-in_err-w : goal.factors-returns-in_err-w
factors-returns-in_err-w t c =
    rw c.from_residual.ensures
    (joined_fails by_star (item c.skip-item.ensures c.byte_at.ensures) c.if-byte_at-eq42.true c.after.ensures c.in_err-w.was
    c.factor.ensures)

pub factors-returns-else-byte_at-eq42 : goal.factors-returns-else-byte_at-eq42
factors-returns-else-byte_at-eq42 t c =
    factors-stop (item c.skip-item.ensures c.byte_at.ensures) c.if-byte_at-eq42.false c.requires

-- side: a term and what follows
pub side-returns : goal.side-returns
side-returns t c = reads_whole one-term c.in_ok-v.was c.term.ensures c.terms.ensures

pub side-returns-in_err-v : goal.side-returns-in_err-v
side-returns-in_err-v t c = rw c.from_residual.ensures (whole_fails one-term c.in_err-v.was c.term.ensures)

-- term: a factor and what follows
pub term-returns : goal.term-returns
term-returns t c = reads_whole one-factor c.in_ok-v.was c.factor.ensures c.factors.ensures

pub term-returns-in_err-v : goal.term-returns-in_err-v
term-returns-in_err-v t c = rw c.from_residual.ensures (whole_fails one-factor c.in_err-v.was c.factor.ensures)

-- terms: a plus, a minus and what follows, or the end
pub terms-term-requires : goal.terms-term-requires
terms-term-requires t c = (
  less c.args.text.now c.after.result.now 1 c.decreases
      (falls (item c.skip-item.ensures c.byte_at.ensures) c.after.ensures (omega (arith, c.in-43.is))) (omega arith),
  tt,
)

pub terms-terms-requires : goal.terms-terms-requires
terms-terms-requires t c =
    let p = falls (item c.skip-item.ensures c.byte_at.ensures) c.after.ensures (omega (arith, c.in-43.is)) in
    let q = reached (length c.after.result.now) c.in_ok-w-in-43.was c.term.ensures.moved in
    (less c.args.text.now c.in_ok-w-in-43.rest.now 0 c.decreases (omega (arith, p, q.short)) (omega arith), c.sum.ensures.small)

pub terms-term-requires-in-45 : goal.terms-term-requires-in-45
terms-term-requires-in-45 t c = (
  less c.args.text.now c.after-in-45.result.now 1 c.decreases
      (falls (item c.skip-item.ensures c.byte_at.ensures) c.after-in-45.ensures (omega (arith, c.in-45.is))) (omega arith),
  tt,
)

pub terms-terms-requires-in-45 : goal.terms-terms-requires-in-45
terms-terms-requires-in-45 t c =
    let p = falls (item c.skip-item.ensures c.byte_at.ensures) c.after-in-45.ensures (omega (arith, c.in-45.is)) in
    let q = reached (length c.after-in-45.result.now) c.in_ok-w-in-45.was c.term-in-45.ensures.moved in
    (less c.args.text.now c.in_ok-w-in-45.rest.now 0 c.decreases (omega (arith, p, q.short)) (omega arith), c.difference.ensures.small)

pub terms-returns-in_ok-w-in-43 : goal.terms-returns-in_ok-w-in-43
terms-returns-in_ok-w-in-43 t c =
    let told = plainly sum (length c.after.result.now) c.requires c.in_ok-w-in-43.was c.term.ensures.moved c.sum.ensures.same in
    reads-joined by_plus (item c.skip-item.ensures c.byte_at.ensures) c.in-43.is c.after.ensures c.in_ok-w-in-43.was c.term.ensures
    told c.terms.ensures

pub terms-returns-in_err-w-in-43 : goal.terms-returns-in_err-w-in-43
terms-returns-in_err-w-in-43 t c =
    rw c.from_residual.ensures
    (joined_fails by_plus (item c.skip-item.ensures c.byte_at.ensures) c.in-43.is c.after.ensures c.in_err-w-in-43.was
    c.term.ensures)

pub terms-returns-in_ok-w-in-45 : goal.terms-returns-in_ok-w-in-45
terms-returns-in_ok-w-in-45 t c =
    let size = length c.after-in-45.result.now in
    let told = plainly difference size c.requires c.in_ok-w-in-45.was c.term-in-45.ensures.moved c.difference.ensures.same in
    reads-joined by-minus (item c.skip-item.ensures c.byte_at.ensures) c.in-45.is c.after-in-45.ensures c.in_ok-w-in-45.was
    c.term-in-45.ensures told c.terms-in-45.ensures

pub terms-returns-in_err-w-in-45 : goal.terms-returns-in_err-w-in-45
terms-returns-in_err-w-in-45 t c =
    rw c.from_residual-in_err-w-in-45.ensures
    (joined_fails by-minus (item c.skip-item.ensures c.byte_at.ensures) c.in-45.is c.after-in-45.ensures c.in_err-w-in-45.was
    c.term-in-45.ensures)

pub terms-returns-in_default : goal.terms-returns-in_default
terms-returns-in_default t c =
    terms-stop (item c.skip-item.ensures c.byte_at.ensures) (λ e. omega arith) (λ e. omega arith) c.requires
