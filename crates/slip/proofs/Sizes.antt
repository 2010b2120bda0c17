-- Every value that an exact computation makes on its way fits 64 bits, and what one function asks follows from what its caller has. An
-- i64 that a call takes or returns is read back from its bits, `read z`, which is z where z fits.
use mathlib.Core.Path.{◌≡◌, ◌∙◌, ap, sym}
use mathlib.Core.Bool.{Bool, true, false, ◌&&◌}
use Prim.Native.Nat.{ℕ, ◌^◌, ◌<◌}
use lib.Dec.{T, ltb}
use lib.IntN.{ℤ, pos, neg_ℤ, ◌+ℤ◌, ◌-ℤ◌, ◌*ℤ◌, +ℤ_idl}
use lib.Signed.{le_z, mag}
use mir.Syntax.{w64}
use mir.Val.{SFits}
use mir.Facts.{to_z-of_z}
use Rattle.ints.specs.Within.{Within}
use Rattle.ints.proofs.Bits.{read}
use Rattle.ints.proofs.Machine.{within-fits, within-read, within-add, within-sub, within-mul, within-numeral, weaken}
use Rattle.lp.specs.declared.Constraint.{Constraint}
use Rattle.lp.specs.declared.Functional.{Functional}
use Rattle.lp.specs.declared.Point.{Point}
use Rattle.lp.specs.declared.Ray.{Ray}
use Rattle.lp.specs.Program.{constraint}
use Rattle.slip.specs.Runs.{Factors, Distance, Placed, Risen, Gained, Scaled, Fused, Summed}

pub unread : {z : ℤ} → mag z < 2 ^ 63 → read z ≡ z
unread h = to_z-of_z {w = w64} (record { sfits = h })

pub within-unread : {n : ℕ} {z : ℤ} → Within n z → T (ltb n (2 ^ 63)) → read z ≡ z
within-unread h t = to_z-of_z {w = w64} (within-fits h t)

pub constraint-same : {a b c a' b' c' : ℤ} → a ≡ a' → b ≡ b' → c ≡ c' → constraint a b c ≡ constraint a' b' c'
constraint-same ea eb ec = λ i. constraint (ea i) (eb i) (ec i)

-- ---- c·d − (a·x + b·y)

pub record DistanceFits (a x b y c d : ℤ) : Type 0 where
  pub ax : SFits w64 (a *ℤ x)
  pub by : SFits w64 (b *ℤ y)
  pub cd : SFits w64 (c *ℤ d)
  pub sum : SFits w64 (a *ℤ x +ℤ b *ℤ y)
  pub whole : SFits w64 (c *ℤ d -ℤ (a *ℤ x +ℤ b *ℤ y))

pub distance-fits : {a x b y c d : ℤ} → Distance a x b y c d → DistanceFits a x b y c d
distance-fits s =
    let ax = within-mul s.a_small s.x-small in
    let by = within-mul s.b-small s.y-small in
    let cd = within-mul s.c-small s.d_small in
    record {
      ax = within-fits ax tt;
      by = within-fits by tt;
      cd = within-fits cd tt;
      sum = within-fits (within-add ax by) tt;
      whole = within-fits (within-sub cd (within-add ax by)) tt;
    }

module _ {r : Constraint} {v : Point} (f : Placed r v) where
  pub placed-distance : Distance (read r.a) (read v.x) (read r.b) (read v.y) (read r.c) (read v.d)
  placed-distance =
      record {
        a_small = within-read f.rule.a_small tt;
        x-small = within-read f.pair.x-small tt;
        b-small = within-read f.rule.b-small tt;
        y-small = within-read f.pair.y-small tt;
        c-small = within-read f.rule.c-small tt;
        d_small = within-read f.pair.d_small tt;
      }

  pub distance_read :
      {z : ℤ} →
      mag z < 2 ^ 63 →
      z ≡ read r.c *ℤ read v.d -ℤ (read r.a *ℤ read v.x +ℤ read r.b *ℤ read v.y) →
      read z ≡ r.c *ℤ v.d -ℤ (r.a *ℤ v.x +ℤ r.b *ℤ v.y)
  distance_read h e =
      unread h
      ∙ e
      ∙ λ i. within-unread f.rule.c-small tt i *ℤ within-unread f.pair.d_small tt i
      -ℤ (within-unread f.rule.a_small tt i *ℤ within-unread f.pair.x-small tt i
      +ℤ within-unread f.rule.b-small tt i *ℤ within-unread f.pair.y-small tt i)

-- ---- p·q + s·t

module _ {p q s t : ℤ} (f : Factors p q s t) where
  pub factors-read : Factors (read p) (read q) (read s) (read t)
  factors-read =
      record {
        p-small = within-read f.p-small tt;
        q-small = within-read f.q-small tt;
        s-small = within-read f.s-small tt;
        t-small = within-read f.t-small tt;
      }

  pub sum-read :
      {z : ℤ} →
      mag z < 2 ^ 63 →
      z ≡ read p *ℤ read q +ℤ read s *ℤ read t →
      read z ≡ p *ℤ q +ℤ s *ℤ t
  sum-read h e =
      unread h
      ∙ e
      ∙ λ i. within-unread f.p-small tt i *ℤ within-unread f.q-small tt i
      +ℤ within-unread f.s-small tt i *ℤ within-unread f.t-small tt i

pub rise-factors : {r : Constraint} {d : Ray} → Risen r d → Factors r.a d.dx r.b d.dy
rise-factors h =
    record { p-small = h.rule.a_small; q-small = h.ray.dx-small; s-small = h.rule.b-small; t-small = h.ray.dy-small }

pub along-factors : {f : Functional} {d : Ray} → Gained f d → Factors f.p d.dx f.q d.dy
along-factors h =
    record { p-small = h.objective.p-small; q-small = h.ray.dx-small; s-small = h.objective.q-small; t-small = h.ray.dy-small }

-- ---- w·x + t

pub record FusedFits (w x t : ℤ) : Type 0 where
  pub product : SFits w64 (w *ℤ x)
  pub whole : SFits w64 (w *ℤ x +ℤ t)

pub fused-fits : {w x t : ℤ} → Fused w x t → FusedFits w x t
fused-fits s =
    let wx = within-mul s.w-small s.x-small in
    record { product = within-fits wx tt; whole = within-fits (within-add wx s.t-small) tt }

pub fused_args : {w x t : ℤ} → Fused w x t → Fused (read w) (read x) (read t)
fused_args f =
    record { w-small = within-read f.w-small tt; x-small = within-read f.x-small tt; t-small = within-read f.t-small tt }

pub fused-read : {w x t : ℤ} → Fused w x t → {z : ℤ} → mag z < 2 ^ 63 → z ≡ read w *ℤ read x +ℤ read t → read z ≡ w *ℤ x +ℤ t
fused-read f h e =
    unread h
    ∙ e
    ∙ λ i. within-unread f.w-small tt i *ℤ within-unread f.x-small tt i +ℤ within-unread f.t-small tt i

module _ {w : ℤ} {r total : Constraint} (s : Summed w r total) where
  pub fused-a : Fused w r.a total.a
  fused-a = record { w-small = s.weight; x-small = weaken tt s.rule.a_small; t-small = s.a_small }

  pub fused-b : Fused w r.b total.b
  fused-b = record { w-small = s.weight; x-small = weaken tt s.rule.b-small; t-small = s.b-small }

  pub fused-c : Fused w r.c total.c
  fused-c = record { w-small = s.weight; x-small = s.rule.c-small; t-small = s.c-small }

-- ---- scale · part

pub scaled_fits : {s p : ℤ} → Scaled s p → SFits w64 (s *ℤ p)
scaled_fits h = within-fits (within-mul h.scale_small h.part_small) tt

pub scaled_args : {s p : ℤ} → Scaled s p → Scaled (read s) (read p)
scaled_args h = record { scale_small = within-read h.scale_small tt; part_small = within-read h.part_small tt }

pub scaled_read : {s p : ℤ} → Scaled s p → read (read s *ℤ read p) ≡ s *ℤ p
scaled_read h =
    to_z-of_z {w = w64} (scaled_fits (scaled_args h))
    ∙ λ i. within-unread h.scale_small tt i *ℤ within-unread h.part_small tt i

-- ---- −z

pub opposite-is : {z : ℤ} → Within 1000000000 z → read (pos 0 -ℤ read z) ≡ neg_ℤ z
opposite-is {z} h =
    within-unread (within-sub {m = 0} {a = pos 0} (within-numeral tt) (within-read h tt)) tt
    ∙ ap (λ y. pos 0 -ℤ y) (within-unread h tt)
    ∙ +ℤ_idl (neg_ℤ z)

pub opposite-read : {z : ℤ} → Within 1000000000 z → {y : ℤ} → mag y < 2 ^ 63 → y ≡ neg_ℤ (read z) → read y ≡ neg_ℤ z
opposite-read h k e = unread k ∙ e ∙ ap neg_ℤ (within-unread h tt)

-- ---- two tests joined by `&&`, as the code takes them: the second is asked only where the first holds

both_left : (s t : Bool) → s ≡ true → t ≡ (s && t)
both_left s t e = ap (λ b. b && t) (sym e)

both_right : (s t : Bool) → s ≡ false → s ≡ (s && t)
both_right s t e = e ∙ ap (λ b. b && t) (sym e)

module _ {a b : ℤ} (fa : SFits w64 a) (fb : SFits w64 b) where
  test_read : le_z (read a) (read b) ≡ le_z a b
  test_read = λ i. le_z (to_z-of_z {w = w64} fa i) (to_z-of_z {w = w64} fb i)

  pub both-tests :
      {c d : ℤ} →
      SFits w64 c →
      SFits w64 d →
      le_z (read a) (read b) ≡ true →
      le_z (read c) (read d) ≡ (le_z a b && le_z c d)
  both-tests {c} {d} fc fd e =
      (λ i. le_z (to_z-of_z {w = w64} fc i) (to_z-of_z {w = w64} fd i)) ∙ both_left (le_z a b) (le_z c d) (sym test_read ∙ e)

  pub first-test : (t : Bool) → le_z (read a) (read b) ≡ false → le_z (read a) (read b) ≡ (le_z a b && t)
  first-test t e = test_read ∙ both_right (le_z a b) t (sym test_read ∙ e)
