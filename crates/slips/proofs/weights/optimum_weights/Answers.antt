-- `slips::weights::optimum_weights` meets its contract.
use mathlib.Core.Path.{◌∙◌}
use Rattle.slips.proofs.Sizes.{lt_z-read}
use Rattle.slips.proofs.Chosen.{chosen-level, chosen-two, chosen_none}
use Rattle.slips.proofs.weights.optimum_weights.Goals as goal

pub one_entry-requires : goal.one_entry-requires
one_entry-requires c = record {
  objective = c.requires.objective;
  entry = c.requires.held.level;
}

pub returns-then-dot-gt0 : goal.returns-then-dot-gt0
returns-then-dot-gt0 c =
    let a = c.args in
    c.one_entry.ensures ∙ chosen-level a.f a.h (lt_z-read c.dot.type_inv c.dot.ensures c.if-dot-gt0.true)

pub two_entries-requires : goal.two_entries-requires
two_entries-requires c =
    record {
      objective = c.requires.objective;
      right = c.requires.held.right;
      left = c.requires.held.left;
    }

pub returns-then-det-gt0 : goal.returns-then-det-gt0
returns-then-det-gt0 c =
    let a = c.args in
    c.two_entries.ensures
    ∙ chosen-two a.f a.h (lt_z-read c.dot.type_inv c.dot.ensures c.if-dot-gt0.false)
    (lt_z-read c.det.type_inv c.det.ensures c.if-det-gt0.true)

pub returns : goal.returns
returns c =
    let a = c.args in
    c.nothing.ensures
    ∙ chosen_none a.f a.h (lt_z-read c.dot.type_inv c.dot.ensures c.if-dot-gt0.false)
    (lt_z-read c.det.type_inv c.det.ensures c.if-det-gt0.false)
