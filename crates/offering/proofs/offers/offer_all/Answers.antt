-- `offering::offers::offer_all` meets its contract: without corners that were listed nothing is written.
use Rattle.std.specs.Prelude.{Option}
use native.Mathlib.Omega.{arith}
use mathlib.Core.Path.{sym, ap, ◌∙◌, subst}
use mathlib.Core.List.{◌++◌}
use Prim.Native.Nat.{ℕ, ◌*◌}
use lib.ListN.{length, drop}
use Rattle.lp.specs.declared.Ray.{Ray}
use Rattle.model.specs.Bounds.{SmallCone}
use Rattle.engine.specs.Entries.{entries}
use Rattle.objectives.specs.Objectives.{objectives_of}
use Rattle.objectives.proofs.Sound.{few-objectives}
use Rattle.offering.specs.Listed.{points_from, offer_in, answers_by}
use Rattle.offering.specs.Asked.{answered_of, filled_of}
use Rattle.offering.proofs.Sizes.{rays-small}
use Rattle.offering.proofs.offers.offer_all.Goals as goal

pub rays-requires : goal.rays-requires
rays-requires c =
    (c.requires.inside _ c.in-Some.is).ruled

pub fill-requires : goal.fill-requires
fill-requires c =
    let listing = c.requires.inside _ c.in-Some.is in
    let rules = entries c.args.run.now 2 c.args.n in
    record {
      rays = subst SmallCone (sym c.rays.ensures) (rays-small rules listing.ruled.rules-small);
      points = listing.points;
      sound = c.requires.sound;
      room = c.requires.room;
    }

pub overflow_mul-result : goal.overflow_mul-result
overflow_mul-result c =
    omega (
      arith,
      few-objectives c.args.objectives.now c.requires.sound,
    )

pub returns-in-None : goal.returns-in-None
returns-in-None c =
    let a = c.args in
    let e = sym c.in-None.is in
    record {
      answer = ap (λ (l : Option ℕ). answered_of l (8 * length a.objectives.now)) e;
      output = ap (λ (l : Option ℕ). filled_of l a.n a.run.now a.corners.now a.objectives.now a.out.now) e;
    }

pub returns-in-Some : goal.returns-in-Some
returns-in-Some c =
    let a = c.args in
    let e = sym c.in-Some.is in
    let rest = drop (8 * length a.objectives.now) a.out.now in
    let points = points_from a.corners.now 0 c.in-Some.count in
    record {
      answer = ap (λ (l : Option ℕ). answered_of l (8 * length a.objectives.now)) e;
      output =
          c.fill.ensures
          ∙ ap (λ (cone : Option (Ray × Ray)). answers_by (offer_in cone points) (objectives_of a.objectives.now) ++ rest) c.rays.ensures
          ∙ ap (λ (l : Option ℕ). filled_of l a.n a.run.now a.corners.now a.objectives.now a.out.now) e;
    }
