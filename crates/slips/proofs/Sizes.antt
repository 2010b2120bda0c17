-- What one function of the writer asks follows from what its caller has: sizes of what is held along the pass, and machine numbers read
-- back from their bits.
use mathlib.Core.Path.{◌≡◌, refl, sym, ◌∙◌, ap, subst}
use mathlib.Core.List.{List}
use mathlib.Core.Bool.{Bool, true, false}
use Prim.Native.Nat.{ℕ, suc, ◌+◌, ◌-◌, ◌^◌, ◌≤◌, ◌<◌}
use native.Mathlib.Omega.{arith}
use native.Mathlib.Nat.{sub-zero}
use native.Mathlib.Numerals.{add-one}
use lib.IntN.{ℤ, pos, negsuc, neg_ℤ, ◌+ℤ◌, ◌-ℤ◌, ◌*ℤ◌}
use lib.Signed.{lt_z, mag}
use mir.Syntax.{w64}
use mir.Val.{SFits, to_z}
use mir.Facts.{to_z-of_z}
use Rattle.ints.proofs.Bits.{read}
use Rattle.ints.proofs.Machine.{within_neg, within-numeral}
use Rattle.lp.specs.declared.Constraint.{Constraint}
use Rattle.lp.specs.declared.Functional.{Functional}
use Rattle.lp.specs.declared.Floors.{Floors}
use Rattle.lp.specs.declared.Point.{Point}
use Rattle.lp.specs.Program.{constraint, slack, floor_x, floor_y}
use Rattle.lp.specs.Outcome.{det}
use Rattle.lp.specs.Certificate.{is_zero}
use Rattle.lp.specs.Range.{SmallConstraint, SmallFunctional}
use Rattle.slip.specs.Runs.{Factors}
use Rattle.slip.proofs.Sizes.{unread, within-unread}
use Rattle.slip.proofs.Shares.{floor_x-small, floor_y-small}
use Rattle.slips.specs.declared.pass.Side.{Side}
use Rattle.slips.specs.declared.pass.Held.{Held}
use Rattle.slips.specs.Pass.{normal_of, opposite_of, dot, side, held_with, nothing_held, placed_of, turned_of, pass_of, floors_held, held_of}
use Rattle.slips.specs.Runs.{entries, indices, side_at, Room, Lines, SmallHeld, Turning, Flooring, Passing}

-- ---- determinants

pub difference-read :
    {p q s t : ℤ} →
    Factors p q s t →
    {z : ℤ} →
    mag z < 2 ^ 63 →
    z ≡ read p *ℤ read q -ℤ read s *ℤ read t →
    read z ≡ p *ℤ q -ℤ s *ℤ t
difference-read f h e =
    unread h
    ∙ e
    ∙ λ i. within-unread f.p-small tt i *ℤ within-unread f.q-small tt i
    -ℤ within-unread f.s-small tt i *ℤ within-unread f.t-small tt i

module _ {r s : Constraint} (h : Lines r s) where
  pub det-factors : Factors r.a s.b s.a r.b
  det-factors =
      record { p-small = h.first.a_small; q-small = h.second.b-small; s-small = h.second.a_small; t-small = h.first.b-small }

  pub dot-factors : Factors r.a s.a r.b s.b
  dot-factors =
      record { p-small = h.first.a_small; q-small = h.second.a_small; s-small = h.first.b-small; t-small = h.second.b-small }

-- a record's code, from its sixteen bits
module _ (x : ℕ) (h : x < 2 ^ 16) where
  number_is : to_z w64 x ≡ pos x
  number_is = to_z-of_z {w = w64} {z = pos x} (record { sfits = omega arith })

  sum_is : to_z w64 x +ℤ pos 1 ≡ pos (x + 1)
  sum_is = ap (λ z. z +ℤ pos 1) number_is

  pub code_fits : SFits w64 (to_z w64 x +ℤ pos 1)
  code_fits = subst (λ z. SFits w64 z) (sym sum_is) (record { sfits = omega arith })

  pub code_read : read (to_z w64 x +ℤ pos 1) ≡ pos (x + 1)
  code_read = to_z-of_z {w = w64} code_fits ∙ sum_is

-- ---- what is held stays within its size

pub normal-small : {f : Functional} → SmallFunctional f → SmallConstraint (normal_of f)
normal-small h = record { a_small = h.p-small; b-small = h.q-small; c-small = within-numeral tt }

pub opposite-small : {f : Constraint} → SmallConstraint f → SmallConstraint (opposite_of f)
opposite-small h =
    record { a_small = within_neg h.a_small; b-small = within_neg h.b-small; c-small = within-numeral tt }

pub nothing-small : {f : Constraint} → SmallConstraint f → SmallHeld (nothing_held f)
nothing-small h =
    record {
      left = opposite-small h;
      right = opposite-small h;
      level = record { a_small = within-numeral tt; b-small = within-numeral tt; c-small = within-numeral tt };
    }

pub placed-small : (f : Constraint) (s : Side) (h : Held) → SmallConstraint s.rule → SmallHeld h → SmallHeld (placed_of f s h)
placed-small f s h hs hh =
    go (lt_z (pos 0) (det f s.rule)) (lt_z (pos 0) (det s.rule h.left.rule)) (lt_z (det f s.rule) (pos 0))
    (lt_z (pos 0) (det h.right.rule s.rule)) (lt_z (pos 0) (dot f s.rule))
  where
    go : (a b c d e : Bool) →
        SmallHeld (elim a [
          | true ↦ elim b [ true ↦ held_with s h.right h.level | false ↦ h ]
          | false ↦
              elim c [
                | true ↦ elim d [ true ↦ held_with h.left s h.level | false ↦ h ]
                | false ↦ elim e [ true ↦ held_with h.left h.right s | false ↦ h ]
              ]
        ])
    go true true c d e = record { left = hs; right = hh.right; level = hh.level }
    go true false c d e = hh
    go false b true true e = record { left = hh.left; right = hs; level = hh.level }
    go false b true false e = hh
    go false b false d true = record { left = hh.left; right = hh.right; level = hs }
    go false b false d false = hh

pub turned-small : (f : Constraint) (v : Point) (s : Side) (h : Held) →
    SmallConstraint s.rule →
    SmallHeld h →
    SmallHeld (turned_of f v s h)
turned-small f v s h hs hh = go (is_zero (slack s.rule v))
  where
    go : (b : Bool) → SmallHeld (elim b [ true ↦ placed_of f s h | false ↦ h ])
    go true = placed-small f s h hs hh
    go false = hh

pub floors-held-small : {f : Constraint} {v : Point} {floors : Floors} → Flooring f v floors → SmallHeld (floors_held f v floors)
floors-held-small {f} {v} {floors} h =
    turned-small f v (side (pos 1) (floor_y floors)) (turned_of f v (side (pos 0) (floor_x floors)) (nothing_held f))
    (floor_y-small h.floors-small)
    (turned-small f v (side (pos 0) (floor_x floors)) (nothing_held f) (floor_x-small h.floors-small) (nothing-small h.objective))

-- ---- the loop

-- what is left of the pass at place i gives what the whole holds
pub record Turned (g : Constraint) (v : Point) (records : List ℕ) (l : List ℤ) (n : ℕ) (start h : Held) (i : ℕ) : Type 0 where
  pub inside : i ≤ n
  pub small : SmallHeld h
  pub rest :
      pass_of g v (indices records i (n - i)) (entries l i (n - i)) h ≡ pass_of g v (indices records 0 n) (entries l 0 n) start

module _ {f : Functional} {v : Point} {floors : Floors} {records : List ℕ} {l : List ℤ} {n : ℕ} (p : Passing f v floors records l n)
    {g : Constraint} (eg : g ≡ normal_of f) where
  g-small : SmallConstraint g
  g-small = subst SmallConstraint (sym eg) (normal-small p.objective)

  pub passing_flooring : Flooring g v floors
  passing_flooring = record { objective = g-small; pair = p.pair; floors-small = p.floors-small }

  pub turned-start : {h : Held} → h ≡ floors_held g v floors → Turned g v records l n h h 0
  turned-start {h} e =
      record {
        inside = omega arith;
        small = subst SmallHeld (sym e) (floors-held-small passing_flooring);
        rest = rw sub-zero refl;
      }

  pub turned-room : {i : ℕ} → i < n → Room records l i
  turned-room b = record { names = omega (arith, p.names); room = omega (arith, p.entries.room) }

  module _ {start h : Held} {i : ℕ} (t : Turned g v records l n start h i) where
    module _ (b : i < n) {s : Side} (es : s ≡ side_at records l i) where
      side-small : SmallConstraint s.rule
      side-small = subst (λ (s : Side). SmallConstraint s.rule) (sym es) (p.entries.small i b)

      pub turned_asks : Turning g v s h
      turned_asks = record { pair = p.pair; placing = record { objective = g-small; entry = side-small; held = t.small } }

      pub turned-step : {u : Held} → u ≡ turned_of g v s h → Turned g v records l n start u (i + 1)
      turned-step {u} eu =
          record {
            inside = omega arith;
            small = subst SmallHeld (sym eu) (turned-small g v s h side-small t.small);
            rest = rw add-one (ap (pass_of g v (indices records (suc i) (n - suc i)) (entries l (suc i) (n - suc i)))
                (eu ∙ ap (λ s. turned_of g v s h) es)
                ∙ sym (ap (λ m. pass_of g v (indices records i m) (entries l i m) h) (left_over n i b))
                ∙ t.rest);
          }
        where
          left_over : (n i : ℕ) → i < n → n - i ≡ suc (n - suc i)
          left_over n i h = omega arith

    pub turned-end : n ≤ i → start ≡ floors_held g v floors → h ≡ held_of f v floors (indices records 0 n) (entries l 0 n)
    turned-end b e =
        sym (ap (λ m. pass_of g v (indices records i m) (entries l i m) h) (none n i b))
        ∙ t.rest
        ∙ ap (pass_of g v (indices records 0 n) (entries l 0 n)) e
        ∙ ap (λ g. pass_of g v (indices records 0 n) (entries l 0 n) (floors_held g v floors)) eg
      where
        none : (n i : ℕ) → n ≤ i → n - i ≡ 0
        none n i h = omega arith

-- ---- tests of a number that a call returned

module _ {z y : ℤ} (h : mag z < 2 ^ 63) (e : z ≡ y) where
  pub lt_z-read : {b : Bool} → lt_z (pos 0) (read z) ≡ b → lt_z (pos 0) y ≡ b
  lt_z-read t = ap (lt_z (pos 0)) (sym (unread h ∙ e)) ∙ t

  pub lt_z-read-below : {b : Bool} → lt_z (read z) (pos 0) ≡ b → lt_z y (pos 0) ≡ b
  lt_z-read-below t = ap (λ x. lt_z x (pos 0)) (sym (unread h ∙ e)) ∙ t

-- ---- the floors

module _ {f : Constraint} {v : Point} {floors : Floors} (h : Flooring f v floors) {x : ℤ} (ex : x ≡ neg_ℤ floors.lx) {n : Held}
    (en : n ≡ nothing_held f) where
  abbrev side_x : Side
  side_x = side (pos 0) (constraint (negsuc 0) (pos 0) x)

  x-is : side_x ≡ side (pos 0) (floor_x floors)
  x-is = ap (λ z. side (pos 0) (constraint (negsuc 0) (pos 0) z)) ex

  pub first_asks : Turning f v side_x n
  first_asks =
      record {
        pair = h.pair;
        placing = record {
          objective = h.objective;
          entry = subst (λ (s : Side). SmallConstraint s.rule) (sym x-is) (floor_x-small h.floors-small);
          held = subst SmallHeld (sym en) (nothing-small h.objective);
        };
      }

  module _ {m : Held} (em : m ≡ turned_of f v side_x n) {y : ℤ} (ey : y ≡ neg_ℤ floors.ly) where
    abbrev side_y : Side
    side_y = side (pos 1) (constraint (pos 0) (negsuc 0) y)

    y-is : side_y ≡ side (pos 1) (floor_y floors)
    y-is = ap (λ z. side (pos 1) (constraint (pos 0) (negsuc 0) z)) ey

    first-is : m ≡ turned_of f v (side (pos 0) (floor_x floors)) (nothing_held f)
    first-is = em ∙ λ i. turned_of f v (x-is i) (en i)

    pub second_asks : Turning f v side_y m
    second_asks =
        record {
          pair = h.pair;
          placing = record {
            objective = h.objective;
            entry = subst (λ (s : Side). SmallConstraint s.rule) (sym y-is) (floor_y-small h.floors-small);
            held = subst SmallHeld (sym first-is)
                (turned-small f v (side (pos 0) (floor_x floors)) (nothing_held f) (floor_x-small h.floors-small)
                (nothing-small h.objective));
          };
        }

    pub both-turned : {u : Held} → u ≡ turned_of f v side_y m → u ≡ floors_held f v floors
    both-turned eu = eu ∙ λ i. turned_of f v (y-is i) (first-is i)

-- the objective's numbers read back from their bits
pub normal-read : {f : Functional} {p q : ℤ} → p ≡ f.p → q ≡ f.q → constraint p q (pos 0) ≡ normal_of f
normal-read ep eq = λ i. constraint (ep i) (eq i) (pos 0)
