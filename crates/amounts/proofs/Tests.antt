-- Each test of a range says what its record says, both ways; and so the promise of `amount` for numbers that are within their ranges.
use mathlib.Core.Path.{◌≡◌, refl, sym, ◌∙◌, ap, subst}
use mathlib.Core.List.{List, [], ◌∷◌}
use mathlib.Core.Bool.{Bool, true, false, cond, ◌&&◌}
use Prim.Native.Nat.{ℕ, ◌^◌, ◌<◌}
use borrow.Author.Tests.{leb-true, le-leb}
use lib.Dec.{T, leb}
use lib.IntN.{ℤ, pos, nat_abs}
use lib.Signed.{lt_z, lt_z_yes, mag}
use Rattle.ints.proofs.Bits.{read}
use Rattle.fraction.proofs.Quotients.{unread}
use Rattle.ints.specs.Within.{Within}
use Rattle.lp.specs.declared.Constraint.{Constraint}
use Rattle.lp.specs.declared.Functional.{Functional}
use Rattle.lp.specs.declared.Floors.{Floors}
use Rattle.lp.specs.declared.Point.{Point}
use Rattle.lp.specs.Outcome.{every}
use Rattle.lp.specs.Slack.{amount, slack_of}
use Rattle.lp.specs.Range.{SmallConstraint, SmallSystem, SmallFunctional, SmallFloors}
use Rattle.model.specs.Bounds.{SmallPoint}
use Rattle.amounts.specs.Tests.{up_to, rule_in_range, objective_in_range, floors_in_range, point_in_range}
use Rattle.amounts.specs.Amounts.{amount_of}

-- ---- one number

up-to : {n : ℕ} {z : ℤ} → Within n z → leb (nat_abs z) n ≡ true
up-to {n} {z} h = le-leb (nat_abs z) n h.small

within : (n : ℕ) (z : ℤ) → up_to n z ≡ true → Within n z
within n z e = record { small = leb-true (nat_abs z) n e }

-- ---- tests joined by `and`

pub both : (s t : Bool) → (s && t) ≡ true → (s ≡ true) × (t ≡ true)
both true t e = (refl, e)
both false t e = absurd (subst T (sym e) tt)

pub is_true : (s : Bool) → T s → s ≡ true
is_true true h = refl
is_true false h = absurd h

-- a number that a call took is read back from its bits
passed : (n : ℕ) (z : ℤ) → mag z < 2 ^ 63 → {t : Bool} → t ≡ up_to n (read z) → t ≡ up_to n z
passed n z h e = e ∙ ap (up_to n) (unread {z = z} h)

-- two numbers of one range
pub two-passed :
    (n : ℕ) (y z : ℤ) →
    mag y < 2 ^ 63 →
    mag z < 2 ^ 63 →
    {s t : Bool} →
    s ≡ up_to n (read y) →
    t ≡ up_to n (read z) →
    {b : Bool} →
    (s && t) ≡ b →
    (up_to n y && up_to n z) ≡ b
two-passed n y z hy hz es et e = sym (λ i. passed n y hy es i && passed n z hz et i) ∙ e

-- ---- a rule, an objective, floors, a point

module _ {r : Constraint} where
  pub rule-passes : SmallConstraint r → rule_in_range r ≡ true
  rule-passes h = rw (up-to h.a_small, up-to h.b-small, up-to h.c-small)

  pub rule-small : rule_in_range r ≡ true → SmallConstraint r
  rule-small e =
      let c = both (up_to 32767 r.a && up_to 32767 r.b) (up_to 1000000000 r.c) e in
      let b = both (up_to 32767 r.a) (up_to 32767 r.b) c.0 in
      record { a_small = within 32767 r.a b.0; b-small = within 32767 r.b b.1; c-small = within 1000000000 r.c c.1 }

module _ {f : Functional} where
  pub objective-passes : SmallFunctional f → objective_in_range f ≡ true
  objective-passes h = rw (up-to h.p-small, up-to h.q-small)

  pub objective-small : objective_in_range f ≡ true → SmallFunctional f
  objective-small e =
      let pq = both (up_to 32767 f.p) (up_to 32767 f.q) e in
      record { p-small = within 32767 f.p pq.0; q-small = within 32767 f.q pq.1 }

module _ {f : Floors} where
  pub floors_pass : SmallFloors f → floors_in_range f ≡ true
  floors_pass h = rw (up-to h.lx_small, up-to h.ly_small)

  pub floors-small : floors_in_range f ≡ true → SmallFloors f
  floors-small e =
      let xy = both (up_to 32768 f.lx) (up_to 32768 f.ly) e in
      record { lx_small = within 32768 f.lx xy.0; ly_small = within 32768 f.ly xy.1 }

module _ {v : Point} where
  pub point-passes : SmallPoint v → point_in_range v ≡ true
  point-passes h = rw (up-to h.x-small, up-to h.y-small, up-to h.d_small) (is_true (lt_z (pos 0) v.d) h.d-proper.lt)

  pub point-small : point_in_range v ≡ true → SmallPoint v
  point-small e =
      let p = both (up_to 65534000000000 v.x && up_to 65534000000000 v.y && up_to 2147352578 v.d) (lt_z (pos 0) v.d) e in
      let d = both (up_to 65534000000000 v.x && up_to 65534000000000 v.y) (up_to 2147352578 v.d) p.0 in
      let y = both (up_to 65534000000000 v.x) (up_to 65534000000000 v.y) d.0 in
      record {
        x-small = within 65534000000000 v.x y.0;
        y-small = within 65534000000000 v.y y.1;
        d_small = within 2147352578 v.d d.1;
        d-proper = lt_z_yes (subst T (sym p.1) tt);
      }

-- ---- a system

pub system-passes : (S : List Constraint) → SmallSystem S → every rule_in_range S ≡ true
system-passes [] h = refl
system-passes (r ∷ S) h =
    ap (λ s. elim s [ true ↦ every rule_in_range S | false ↦ false ]) (rule-passes h.0) ∙ system-passes S h.1

-- ---- the promise of `amount`, for numbers within their ranges

pub measured : (r : Constraint) (v : Point) → SmallConstraint r → SmallPoint v → amount_of r v ≡ slack_of r v
measured r v h k =
    ap (λ b. cond b (slack_of r v) (amount (pos 0) (pos 0))) (ap (λ b. b && point_in_range v) (rule-passes h) ∙ point-passes k)
