-- `checking::facts::unlimited` meets its contract: what is said of a slip of an unlimited book.
use mathlib.Core.Path.{sym, ◌∙◌}
use borrow.Author.Rules.{rules}
use Rattle.slip.proofs.Shares.{both}
use Rattle.slip.specs.Runs.{indices, entries}
use Rattle.slip.proofs.Judging.{pair_small, ray-small, unlimited-said, unlimited-refused}
use Rattle.checking.proofs.Exact.{gained}
use Rattle.checking.proofs.facts.unlimited.Goals as goal

pub allowed-kept-requires : goal.allowed-kept-requires
allowed-kept-requires c =
    let h = c.requires in
    let v = c.args.v in
    let r = both c.pair_in_range.result c.ray_in_range.result c.if-pair_in_range-ray_in_range.true in
    record {
      floors-small = h.terms.floors-small;
      entries = h.entries;
      pair = pair_small v (sym c.pair_in_range.ensures ∙ r.0);
    }

pub stays_all-requires : goal.stays_all-requires
stays_all-requires c =
    let r = both c.pair_in_range.result c.ray_in_range.result c.if-pair_in_range-ray_in_range.true in
    record { entries = c.requires.entries; ray = ray-small c.args.d (sym c.ray_in_range.ensures ∙ r.1) }

pub invariant_of-gaining : goal.invariant_of-gaining
invariant_of-gaining c =
    let r = both c.pair_in_range.result c.ray_in_range.result c.if-pair_in_range-ray_in_range.true in
    record {
      small =
          gained (record {
            objective = c.requires.terms.objective-small;
            ray = ray-small c.args.d (sym c.ray_in_range.ensures ∙ r.1);
          });
    }

pub returns-then-pair_in_range-ray_in_range : goal.returns-then-pair_in_range-ray_in_range
returns-then-pair_in_range-ray_in_range c =
    let s = c.args in
    unlimited-said s.t (indices s.records.now 0 s.n) (entries s.rules.now 0 s.n) s.w s.v s.d
    c.pair_in_range.ensures
    c.ray_in_range.ensures
    c.if-pair_in_range-ray_in_range.true
    c.allowed-kept.ensures
    c.stays_all.ensures
    (search rules)
    c.said.ensures

pub returns-else-pair_in_range-ray_in_range : goal.returns-else-pair_in_range-ray_in_range
returns-else-pair_in_range-ray_in_range c =
    let s = c.args in
    unlimited-refused s.t (indices s.records.now 0 s.n) (entries s.rules.now 0 s.n) s.w s.v s.d
    c.pair_in_range.ensures c.ray_in_range.ensures c.if-pair_in_range-ray_in_range.false
    c.refused.ensures
