-- `engine::start::conflict` meets its contract: h at index n, k at j, which meets its line first, and m at i, which that point breaks.
use mathlib.Core.Path.{sym, ◌∙◌, ap, subst}
use Rattle.lp.specs.Outcome.{det}
use Rattle.lp.specs.Range.{SmallConstraint}
use Rattle.model.proofs.Bounds.{facing-small}
use Rattle.fraction.proofs.Quotients.{unread}
use Rattle.engine.proofs.Steps.{certificate-same}
use Rattle.engine.proofs.start.conflict.Goals as goal

pub invariant_of-det : goal.invariant_of-det
invariant_of-det c =
    let s = c.requires in
    let first = subst SmallConstraint (sym c.facing-line.ensures) (facing-small c.args.side s.h-small) in
    record { small = record { first = first; second = s.m-small } }

pub returns : goal.returns
returns c =
    let a = c.args in
    let e = c.facing-line.ensures in
    certificate-same a.n a.j a.i (unread c.line_weight.type_inv ∙ c.line_weight.ensures)
    (unread c.det.type_inv ∙ c.det.ensures ∙ ap (λ l. det l a.m) e)
    (unread c.det-2.type_inv ∙ c.det-2.ensures ∙ ap (det a.k) e)
