-- What crate exact asks of its numbers follows from document 02's ranges: of a pair, of a direction, and of a rule of the chain. So what
-- its functions that wrap hand back is exact here too.
use mathlib.Core.Path.{◌≡◌}
use lib.IntN.{pos}
use lib.Signed.{le_z, lt_z}
use mir.Syntax.{w64}
use Rattle.std.specs.Int.{int_wrap}
use Rattle.lp.specs.declared.Constraint.{Constraint}
use Rattle.lp.specs.declared.Functional.{Functional}
use Rattle.lp.specs.declared.Point.{Point}
use Rattle.lp.specs.declared.Ray.{Ray}
use Rattle.lp.specs.Program.{slack, rise, along}
use Rattle.lp.specs.Outcome.{keeps}
use Rattle.lp.specs.Certificate.{is_zero}
use Rattle.exact.specs.Sizes.{Distance, Risen, Gained}
use Rattle.exact.proofs.Exact.{keeps-exact, tight-exact, stays-exact, gains-exact}
use Rattle.slip.specs.Runs.{Placed, Risen as RisenThere, Gained as GainedThere}

pub placed : {r : Constraint} {v : Point} → Placed r v → Distance r.a v.x r.b v.y r.c v.d
placed h =
    record {
      a_small = h.rule.a_small;
      x-small = h.pair.x-small;
      b-small = h.rule.b-small;
      y-small = h.pair.y-small;
      c-small = h.rule.c-small;
      d_small = h.pair.d_small;
    }

pub risen : {r : Constraint} {d : Ray} → RisenThere r d → Risen r d
risen h = record { constraint = h.rule; ray = record { dx-small = h.ray.dx-small; dy-small = h.ray.dy-small } }

pub gained : {f : Functional} {d : Ray} → GainedThere f d → Gained f d
gained h = record { functional = h.objective; ray = record { dx-small = h.ray.dx-small; dy-small = h.ray.dy-small } }

-- ---- what the functions that wrap hand back

pub kept-there : {r : Constraint} {v : Point} → Placed r v → le_z (pos 0) (int_wrap w64 (slack r v)) ≡ keeps r v
kept-there {r} {v} h = keeps-exact r v (placed h)

pub tight-there : {r : Constraint} {v : Point} → Placed r v → is_zero (int_wrap w64 (slack r v)) ≡ is_zero (slack r v)
tight-there {r} {v} h = tight-exact r v (placed h)

pub stayed-along : {r : Constraint} {d : Ray} → RisenThere r d → le_z (int_wrap w64 (rise r d)) (pos 0) ≡ le_z (rise r d) (pos 0)
stayed-along h = stays-exact (risen h)

pub gained-along :
    {f : Functional} {d : Ray} →
    GainedThere f d →
    lt_z (pos 0) (int_wrap w64 (along f d)) ≡ lt_z (pos 0) (along f d)
gained-along h = gains-exact (gained h)
