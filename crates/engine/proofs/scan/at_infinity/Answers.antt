-- `engine::scan::at_infinity` meets its contract.
use mathlib.Core.Path.{refl, ◌∙◌, ap}
use lib.IntN.{pos}
use Rattle.ints.proofs.Bits.{read}
use Rattle.ints.proofs.Machine.{within_neg}
use Rattle.lp.specs.declared.Ray.{Ray}
use Rattle.lp.specs.Program.{point}
use Rattle.model.specs.Scan.{met}
use Rattle.fraction.proofs.Quotients.{point-same}
use Rattle.amounts.proofs.Sizes.{within-unread}
use Rattle.engine.proofs.scan.at_infinity.Goals as goal

pub returns : goal.returns
returns c =
    let h = c.requires in
    ap (λ (d : Ray). met 0 c.args.line (point (read d.dx) (read d.dy) (pos 0))) c.direction-along.ensures
    ∙ ap (met 0 c.args.line) (point-same (within-unread h.b-small tt) (within-unread (within_neg h.a_small) tt) refl)
