-- `exact::within::keeps_at` meets its contract: the corner of two lines is within the bounds of a point that is seen.
use mathlib.Core.Path.{sym, subst}
use Rattle.lp.specs.declared.Point.{Point}
use Rattle.exact.specs.Sizes.{Distance}
use Rattle.exact.proofs.Sizes.{at_corner}
use Rattle.exact.proofs.within.keeps_at.Goals as goal

pub invariant_of-keeps : goal.invariant_of-keeps
invariant_of-keeps c =
    let h = c.args.x.h in
    record { small = subst (λ (v : Point). Distance h.a v.x h.b v.y h.c v.d) (sym c.meet-v.ensures) (at_corner c.args.x.small) }
