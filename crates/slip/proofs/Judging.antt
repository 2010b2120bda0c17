-- What is answered of a slip of each outcome, from what the code's functions found: 17 where a test of a range failed, and else yes or no
-- by the facts.
use mathlib.Core.Path.{◌≡◌, refl, sym, ◌∙◌, ap, subst}
use mathlib.Core.List.{List}
use mathlib.Core.Bool.{Bool, true, false, ◌&&◌}
use Prim.Native.Nat.{ℕ, zero, suc, ◌+◌, ◌≤◌}
use native.Mathlib.Omega.{arith}
use lib.Dec.{T, leb→le}
use lib.IntN.{ℤ, pos, negsuc, ◌*ℤ◌}
use lib.Signed.{le_z, lt_z, le_z_yes}
use Rattle.ints.specs.Within.{Within}
use Rattle.ints.proofs.Machine.{within_range, within-read}
use Rattle.ints.proofs.Bits.{read}
use Rattle.lp.specs.declared.Constraint.{Constraint}
use Rattle.lp.specs.declared.Floors.{Floors}
use Rattle.lp.specs.declared.Terms.{Terms}
use Rattle.lp.specs.declared.Point.{Point}
use Rattle.lp.specs.declared.Ray.{Ray}
use Rattle.lp.specs.declared.Outcome.{Outcome}
use Rattle.lp.specs.declared.Outcome.TheVariants as outcome
use Rattle.lp.specs.Program.{along, rise, floor_x, floor_y, system}
use Rattle.lp.specs.Outcome.{every, keeps, allowed}
use Rattle.lp.specs.Document.{same}
use Rattle.lp.specs.Range.{SmallSystem}
use Rattle.slip.specs.declared.Weights.{Weights}
use Rattle.slip.specs.declared.Verdict.{Verdict}
use Rattle.slip.specs.declared.named.Slots.{Slots}
use Rattle.slip.specs.Facts.{shares, distinct, ranges, pair_in_range, ray_in_range, weight_in_range, share_in_range, sums, tight_all}
use Rattle.slip.specs.Facts.{answered, in_range, holds}
use Rattle.slip.specs.Slots.{slots_of, sound_of, total_of, tight_of, balanced_of, refutes_of, proves_of, said_of, refused_as}
use Rattle.slip.specs.Slots.{Proving, SmallSlots}
use Rattle.slip.specs.Runs.{entries, indices, Entries, Chain, SmallPair, SmallDirection, Naming}
use Rattle.slip.proofs.Shares.{both, sound-exactly, total-sums, tight-all, slots_small, weight-within}

-- ---- ranges as sizes

symmetric : (n : ℕ) (z : ℤ) → le_z (negsuc n) z ≡ true → le_z z (pos (suc n)) ≡ true → Within (suc n) z
symmetric n (pos k) low high = record { small = leb→le k (suc n) (subst T (sym high) tt) }
symmetric n (negsuc k) low high = record { small = up (leb→le k n (subst T (sym low) tt)) }
  where
    up : k ≤ n → suc k ≤ suc n
    up h = omega arith

from_zero : (n : ℕ) (z : ℤ) → ranges (pos 0) z (pos n) ≡ true → Within n z
from_zero n z e =
    let b = both (le_z (pos 0) z) (le_z z (pos n)) e in
    within_range (le_z_yes (subst T (sym b.0) tt)) (le_z_yes (subst T (sym b.1) tt))

pub pair_small : (v : Point) → pair_in_range v ≡ true → SmallPair v
pair_small v e =
    let xy = both (ranges (negsuc 65533999999999) v.x (pos 65534000000000) && ranges (negsuc 65533999999999) v.y (pos 65534000000000))
    (ranges (pos 1) v.d (pos 2147352578)) e in
    let each = both (ranges (negsuc 65533999999999) v.x (pos 65534000000000)) (ranges (negsuc 65533999999999) v.y
    (pos 65534000000000))
    xy.0 in
    let x = both (le_z (negsuc 65533999999999) v.x) (le_z v.x (pos 65534000000000)) each.0 in
    let y = both (le_z (negsuc 65533999999999) v.y) (le_z v.y (pos 65534000000000)) each.1 in
    record {
      x-small = symmetric 65533999999999 v.x x.0 x.1;
      y-small = symmetric 65533999999999 v.y y.0 y.1;
      d_small = weight-within v.d xy.1;
    }

pub ray-small : (d : Ray) → ray_in_range d ≡ true → SmallDirection d
ray-small d e =
    let b = both (ranges (pos 0) d.dx (pos 32767)) (ranges (pos 0) d.dy (pos 32767)) e in
    record { dx-small = from_zero 32767 d.dx b.0; dy-small = from_zero 32767 d.dy b.1 }

pub entries-small : {l : List ℤ} {n : ℕ} → Entries l n → SmallSystem (entries l 0 n)
entries-small {l} {n} h = go 0 n (omega arith)
  where
    go : (i k : ℕ) → i + k ≤ n → SmallSystem (entries l i k)
    go i zero b = tt
    go i (suc k) b = (h.small i (omega arith), go (suc i) k (omega arith))

-- ---- an allowed pair: both floors first

module _ (floors : Floors) (rules : List Constraint) (v : Point) where
  pub allowed_all :
      {x y : Constraint} →
      x ≡ floor_x floors →
      keeps x v ≡ true →
      y ≡ floor_y floors →
      keeps y v ≡ true →
      {t : Bool} →
      t ≡ every (λ r. keeps r v) rules →
      t ≡ allowed (system floors rules) v
  allowed_all ex kx ey ky e =
      e ∙ sym (λ i. elim (sees ex kx i) [
        | true ↦ elim (sees ey ky i) [
          | true ↦ every
              (λ r. keeps r v) rules
          | false ↦ false
        ]
        | false ↦ false
      ])
    where
      sees : {x y : Constraint} → x ≡ y → {b : Bool} → keeps x v ≡ b → keeps y v ≡ b
      sees e k = ap (λ r. keeps r v) (sym e) ∙ k

  pub allowed-not-y :
      {x y : Constraint} →
      x ≡ floor_x floors →
      keeps x v ≡ true →
      y ≡ floor_y floors →
      keeps y v ≡ false →
      false ≡ allowed (system floors rules) v
  allowed-not-y ex kx ey ky =
      sym (λ i. elim (sees ex kx i) [ true ↦ elim (sees ey ky i) [ true ↦ every (λ r. keeps r v) rules | false ↦ false ] | false ↦ false ])
    where
      sees : {x y : Constraint} → x ≡ y → {b : Bool} → keeps x v ≡ b → keeps y v ≡ b
      sees e k = ap (λ r. keeps r v) (sym e) ∙ k

  pub allowed-not-x : {x : Constraint} → x ≡ floor_x floors → keeps x v ≡ false → false ≡ allowed (system floors rules) v
  allowed-not-x ex kx =
      sym (ap (λ b. elim b [
        | true ↦ elim (keeps (floor_y floors) v) [
          | true ↦ every
              (λ r. keeps r v) rules
          | false ↦ false
        ]
        | false ↦ false
      ])
      (ap (λ r. keeps r v) (sym ex) ∙ kx))

-- ---- what is answered

answered-said : {ranged facts f : Bool} → ranged ≡ true → f ≡ facts → {x : Verdict} → x ≡ said_of f → x ≡ answered ranged facts
answered-said {ranged} {facts} er ef ex = ex ∙ ap said_of ef ∙ sym (ap (λ b. answered b facts) er)

answered-refused : {ranged : Bool} (facts : Bool) → ranged ≡ false → {x : Verdict} → x ≡ refused_as 17 → x ≡ answered ranged facts
answered-refused facts er ex = ex ∙ sym (ap (λ b. answered b facts) er)

joined : (r e d : Bool) → (r && (e && d)) ≡ (r && e && d)
joined true e d = refl
joined false e d = refl

-- the facts of a best pair, where those of its entries were tested first
module _ (t : Terms) (rules : List Constraint) (v : Point) (s : Slots) (scale : ℤ) {held even : Bool}
    (eh : held ≡ tight_of s v) (ee : even ≡ balanced_of (total_of s) scale t.objective) where
  abbrev kept : Bool
  kept = allowed (system t.floors rules) v

  pub proves-kept : (held && even) ≡ true → {x : Bool} → x ≡ kept → x ≡ proves_of t rules v s scale
  proves-kept b ex = ex ∙ go kept held even b ∙ λ i. kept && eh i && ee i
    where
      go : (a h e : Bool) → (h && e) ≡ true → a ≡ (a && h && e)
      go true h e b = sym b
      go false h e b = refl

  pub proves-not : (held && even) ≡ false → false ≡ proves_of t rules v s scale
  proves-not b = go kept held even b ∙ λ i. kept && eh i && ee i
    where
      go : (a h e : Bool) → (h && e) ≡ false → false ≡ (a && h && e)
      go true h e b = sym b
      go false h e b = refl

module _ (t : Terms) (records : List ℕ) (rules : List Constraint) (w : Weights) where
  abbrev looked : Slots
  looked = slots_of t.floors records rules w

  module _ {s : Slots} (es : s ≡ looked) {snd : Bool} (esnd : snd ≡ sound_of s w) where
    -- whether the slots are sound
    sound-is : snd ≡ (every (share_in_range t records rules) (shares w) && distinct (shares w))
    sound-is = esnd ∙ ap (λ s. sound_of s w) es ∙ sound-exactly t records rules w

    sound-looked : snd ≡ true → sound_of looked w ≡ true
    sound-looked e = sym (esnd ∙ ap (λ s. sound_of s w) es) ∙ e

    -- ---- impossible

    module _ {r : Bool} (er : r ≡ ranges (pos 1) w.count (pos 3)) where
      conflict-ranged : (r && snd) ≡ in_range t records rules outcome.Infeasible w
      conflict-ranged =
          (λ i. er i && sound-is i)
          ∙ joined (ranges (pos 1) w.count (pos 3)) (every (share_in_range t records rules) (shares w)) (distinct (shares w))

      pub conflict-said :
          (r && snd) ≡ true →
          {total : Constraint} →
          total ≡ total_of s →
          {f : Bool} →
          f ≡ refutes_of total →
          {x : Verdict} →
          x ≡ said_of f →
          x ≡ answered (in_range t records rules outcome.Infeasible w) (holds t records rules outcome.Infeasible w)
      conflict-said h et ef ex =
          answered-said (sym conflict-ranged ∙ h)
          (ef ∙ ap refutes_of (et ∙ ap total_of es ∙ total-sums t records rules w (sound-looked (both r snd h).1))) ex

      pub conflict-refused :
          (r && snd) ≡ false →
          {x : Verdict} →
          x ≡ refused_as 17 →
          x ≡ answered (in_range t records rules outcome.Infeasible w) (holds t records rules outcome.Infeasible w)
      conflict-refused h ex = answered-refused (holds t records rules outcome.Infeasible w) (sym conflict-ranged ∙ h) ex

    -- ---- best

    module _
        (v : Point)
        {p c r : Bool}
        (ep : p ≡ pair_in_range v)
        (ec : c ≡ weight_in_range w.scale)
        (er : r ≡ ranges (pos 0) w.count (pos 2)) where
      best-ranged : (p && c && r && snd) ≡ in_range t records rules (outcome.Optimal v) w
      best-ranged =
          (λ i. ep i && ec i && er i && sound-is i)
          ∙ regroup (pair_in_range v && weight_in_range w.scale) (ranges (pos 0) w.count (pos 2))
          (every (share_in_range t records rules) (shares w)) (distinct (shares w))
        where
          regroup : (a r e d : Bool) → (a && r && (e && d)) ≡ (a && (r && e && d))
          regroup true r e d = joined r e d
          regroup false r e d = refl

      pub best-said :
          (p && c && r && snd) ≡ true →
          {f : Bool} →
          f ≡ proves_of t rules v s w.scale →
          {x : Verdict} →
          x ≡ said_of f →
          x ≡ answered (in_range t records rules (outcome.Optimal v) w) (holds t records rules (outcome.Optimal v) w)
      best-said h {f} ef ex = answered-said (sym best-ranged ∙ h) facts ex
        where
          ok : sound_of looked w ≡ true
          ok = sound-looked (both (p && c && r) snd h).1

          facts : f ≡ holds t records rules (outcome.Optimal v) w
          facts =
              ef
              ∙ ap (λ s. proves_of t rules v s w.scale) es
              ∙ (λ i. allowed (system t.floors rules) v && tight-all t records rules w ok v i
              && balanced_of (total-sums t records rules w ok i) w.scale t.objective)
              ∙ joined (allowed (system t.floors rules) v && tight_all t records rules v (shares w))
              (same (sums t records rules (shares w)).a (w.scale *ℤ t.objective.p))
              (same (sums t records rules (shares w)).b (w.scale *ℤ t.objective.q))

      pub best-refused :
          (p && c && r && snd) ≡ false →
          {x : Verdict} →
          x ≡ refused_as 17 →
          x ≡ answered (in_range t records rules (outcome.Optimal v) w) (holds t records rules (outcome.Optimal v) w)
      best-refused h ex = answered-refused (holds t records rules (outcome.Optimal v) w) (sym best-ranged ∙ h) ex

  -- ---- unlimited

  module _ (v : Point) (d : Ray) {p r : Bool} (ep : p ≡ pair_in_range v) (er : r ≡ ray_in_range d) where
    pub unlimited-said :
        (p && r) ≡ true →
        {a s g : Bool} →
        a ≡ allowed (system t.floors rules) v →
        s ≡ every (λ r. le_z (rise r d) (pos 0)) rules →
        g ≡ lt_z (pos 0) (along t.objective d) →
        {x : Verdict} →
        x ≡ said_of (a && s && g) →
        x ≡ answered (in_range t records rules (outcome.Unbounded v d) w) (holds t records rules (outcome.Unbounded v d) w)
    unlimited-said h {a} {s} {g} ea es eg ex =
        answered-said (sym (λ i. ep i && er i) ∙ h) (sym (joined a s g) ∙ λ i. ea i && (es i && eg i)) ex

    pub unlimited-refused :
        (p && r) ≡ false →
        {x : Verdict} →
        x ≡ refused_as 17 →
        x ≡ answered (in_range t records rules (outcome.Unbounded v d) w) (holds t records rules (outcome.Unbounded v d) w)
    unlimited-refused h ex =
        answered-refused (holds t records rules (outcome.Unbounded v d) w) (sym (λ i. ep i && er i) ∙ h) ex

-- ---- what the functions ask of each other

module _ {t : Terms} {records : List ℕ} {l : List ℤ} {n : ℕ} (h : Chain t records l n) where
  pub chain-naming : Naming t.floors records l n
  chain-naming = record { floors-small = h.terms.floors-small; finding = record { names = h.names; room = h.entries.room } }

  pub chain-slots : (w : Weights) → SmallSlots (slots_of t.floors (indices records 0 n) (entries l 0 n) w)
  chain-slots w =
      slots_small t.floors (indices records 0 n) (entries l 0 n) h.terms.floors-small (entries-small h.entries) w

  pub best_proving :
      (w : Weights) (v : Point) →
      {s : Slots} →
      s ≡ slots_of t.floors (indices records 0 n) (entries l 0 n) w →
      {p c : Bool} →
      p ≡ pair_in_range v →
      c ≡ weight_in_range w.scale →
      (r snd : Bool) →
      (p && c && r && snd) ≡ true →
      Proving t l n v s w.scale
  best_proving w v es {p} {c} ep ec r snd e =
      let three = (both (p && c && r) snd e).0 in
      let pc = both p c (both (p && c) r three).0 in
      record {
        terms = h.terms;
        entries = h.entries;
        pair = pair_small v (sym ep ∙ pc.0);
        slots = subst SmallSlots (sym es) (chain-slots w);
        scale_small = weight-within w.scale (sym ec ∙ pc.1);
      }

pub proving_read : {t : Terms} {l : List ℤ} {n : ℕ} {v : Point} {s : Slots} {k : ℤ} → Proving t l n v s k → Proving t l n v s (read k)
proving_read h =
    record {
      terms = h.terms;
      entries = h.entries;
      pair = h.pair;
      slots = h.slots;
      scale_small = within-read h.scale_small tt;
    }

pub judged-same :
    (t : Terms) (records : List ℕ) (rules : List Constraint) (w : Weights) →
    {o o' : Outcome} →
    o ≡ o' →
    answered (in_range t records rules o w) (holds t records rules o w)
    ≡ answered (in_range t records rules o' w) (holds t records rules o' w)
judged-same t records rules w e = ap (λ o. answered (in_range t records rules o w) (holds t records rules o w)) e
