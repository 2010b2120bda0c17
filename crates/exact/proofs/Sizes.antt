-- Every value that an exact computation makes on its way fits 64 bits, and what one function asks follows from what its caller has.
use lib.IntN.{ℤ, ◌+ℤ◌, ◌-ℤ◌, ◌*ℤ◌}
use mir.Syntax.{w64}
use mir.Val.{SFits}
use Rattle.ints.proofs.Machine.{within-fits, within-add, within-sub, within-mul, weaken}
use Rattle.lp.specs.declared.Constraint.{Constraint}
use Rattle.lp.specs.declared.Functional.{Functional}
use Rattle.lp.specs.declared.Point.{Point}
use Rattle.lp.specs.declared.Ray.{Ray}
use Rattle.lp.specs.Range.{SmallConstraint}
use Rattle.lp.specs.Outcome.{meet}
use Rattle.exact.specs.Sizes.{SmallPoint, Factors, Distance, Lines, Meeting, Risen, Gained, Earned}

pub record DistanceFits (a x b y c d : ℤ) : Type 0 where
  pub ax : SFits w64 (a *ℤ x)
  pub by : SFits w64 (b *ℤ y)
  pub cd : SFits w64 (c *ℤ d)
  pub sum : SFits w64 (a *ℤ x +ℤ b *ℤ y)
  pub whole : SFits w64 (c *ℤ d -ℤ (a *ℤ x +ℤ b *ℤ y))

pub distance-fits : {a x b y c d : ℤ} → Distance a x b y c d → DistanceFits a x b y c d
distance-fits s =
    let ax = within-mul s.a_small s.x-small in
    let by = within-mul s.b-small s.y-small in
    let cd = within-mul s.c-small s.d_small in
    record {
      ax = within-fits ax tt;
      by = within-fits by tt;
      cd = within-fits cd tt;
      sum = within-fits (within-add ax by) tt;
      whole = within-fits (within-sub cd (within-add ax by)) tt;
    }

pub record EarnedFits (p x q y : ℤ) : Type 0 where
  pub px : SFits w64 (p *ℤ x)
  pub qy : SFits w64 (q *ℤ y)
  pub sum : SFits w64 (p *ℤ x +ℤ q *ℤ y)

pub earned-fits : {f : Functional} {v : Point} → Earned f v → EarnedFits f.p v.x f.q v.y
earned-fits s =
    let px = within-mul s.p-small s.x-small in
    let qy = within-mul s.q-small s.y-small in
    record { px = within-fits px tt; qy = within-fits qy tt; sum = within-fits (within-add px qy) tt }

-- ---- what constraints, rays and functionals give to products

module _ {r s : Constraint} (h : Lines r s) where
  pub det-factors : Factors r.a s.b s.a r.b
  det-factors =
      record {
        p-small = weaken tt h.first.a_small;
        q-small = weaken tt h.second.b-small;
        s-small = weaken tt h.second.a_small;
        t-small = weaken tt h.first.b-small;
      }

  pub x-factors : Factors r.c s.b s.c r.b
  x-factors =
      record {
        p-small = h.first.c-small;
        q-small = weaken tt h.second.b-small;
        s-small = h.second.c-small;
        t-small = weaken tt h.first.b-small;
      }

  pub y-factors : Factors r.a s.c s.a r.c
  y-factors =
      record {
        p-small = weaken tt h.first.a_small;
        q-small = h.second.c-small;
        s-small = weaken tt h.second.a_small;
        t-small = h.first.c-small;
      }

  pub dot-factors : Factors r.a s.a r.b s.b
  dot-factors =
      record {
        p-small = weaken tt h.first.a_small;
        q-small = weaken tt h.second.a_small;
        s-small = weaken tt h.first.b-small;
        t-small = weaken tt h.second.b-small;
      }

pub rise-factors : {r : Constraint} {d : Ray} → Risen r d → Factors r.a d.dx r.b d.dy
rise-factors h =
    record {
      p-small = weaken tt h.constraint.a_small;
      q-small = weaken tt h.ray.dx-small;
      s-small = weaken tt h.constraint.b-small;
      t-small = weaken tt h.ray.dy-small;
    }

pub along-factors : {f : Functional} {d : Ray} → Gained f d → Factors f.p d.dx f.q d.dy
along-factors h =
    record {
      p-small = weaken tt h.functional.p-small;
      q-small = weaken tt h.ray.dx-small;
      s-small = weaken tt h.functional.q-small;
      t-small = weaken tt h.ray.dy-small;
    }

-- ---- a corner is within the bounds of a distance, and so is a point within those of a pair

pub at_corner : {h p q : Constraint} →
    Meeting h p q →
    Distance h.a (meet p q).x h.b (meet p q).y h.c (meet p q).d
at_corner m =
    record {
      a_small = m.h-small.a_small;
      x-small = weaken tt
          (within-sub (within-mul m.p-small.c-small m.q-small.b-small) (within-mul m.q-small.c-small m.p-small.b-small));
      b-small = m.h-small.b-small;
      y-small = weaken tt
          (within-sub (within-mul m.p-small.a_small m.q-small.c-small) (within-mul m.q-small.a_small m.p-small.c-small));
      c-small = m.h-small.c-small;
      d_small = weaken tt
          (within-sub (within-mul m.p-small.a_small m.q-small.b-small) (within-mul m.q-small.a_small m.p-small.b-small));
    }

pub kept-distance :
    {r : Constraint} {v : Point} →
    SmallConstraint r →
    SmallPoint v →
    Distance r.a v.x r.b v.y r.c v.d
kept-distance h k =
    record {
      a_small = h.a_small;
      x-small = k.x-small;
      b-small = h.b-small;
      y-small = k.y-small;
      c-small = h.c-small;
      d_small = k.d_small;
    }
