-- Which entries make an optimum: one pass over the entries that are tight at the best pair, looking from the objective f to either side. On
-- the left (counter-clockwise) and on the right the entry whose normal is nearest to f's is held, and one whose normal is f's own
-- direction. At first either side holds the opposite of f, the farthest there is, which stands for none.
use Rattle.std.specs.Prelude.{List, [], ◌∷◌, true, false, ℕ, ◌+◌, ℤ, pos, neg_ℤ, ◌+ℤ◌, ◌*ℤ◌}
use Rattle.std.specs.Int.Signed.{lt_z}
use Rattle.lp.specs.declared.Constraint.{Constraint}
use Rattle.lp.specs.declared.Functional.{Functional}
use Rattle.lp.specs.declared.Floors.{Floors}
use Rattle.lp.specs.declared.Point.{Point}
use Rattle.lp.specs.Program.{constraint, slack, floor_x, floor_y}
use Rattle.lp.specs.Outcome.{det}
use Rattle.lp.specs.Certificate.{is_zero}
use Rattle.slips.specs.declared.pass.Side.{Side}
use Rattle.slips.specs.declared.pass.Held.{Held}

-- the objective as a constraint's normal, and its opposite
abbrev pub normal_of : Functional → Constraint
normal_of f = constraint f.p f.q (pos 0)

abbrev pub opposite_of : Constraint → Constraint
opposite_of f = constraint (neg_ℤ f.a) (neg_ℤ f.b) (pos 0)

abbrev pub dot : Constraint → Constraint → ℤ
dot r s = r.a *ℤ s.a +ℤ r.b *ℤ s.b

abbrev pub side : ℤ → Constraint → Side
side code rule = record { code = code; rule = rule }

abbrev pub held_with : Side → Side → Side → Held
held_with left right level = record { left = left; right = right; level = level }

abbrev pub nothing_held : Constraint → Held
nothing_held f =
    held_with (side (pos 0) (opposite_of f)) (side (pos 0) (opposite_of f)) (side (pos 0) (constraint (pos 0) (pos 0) (pos 0)))

-- a tight entry, by the side of f on which its normal lies
abbrev pub placed_of : Constraint → Side → Held → Held
placed_of f s h =
    elim (lt_z (pos 0) (det f s.rule)) [
      | true ↦ elim (lt_z (pos 0) (det s.rule h.left.rule)) [ true ↦ held_with s h.right h.level | false ↦ h ]
      | false ↦
          elim (lt_z (det f s.rule) (pos 0)) [
            | true ↦ elim (lt_z (pos 0) (det h.right.rule s.rule)) [ true ↦ held_with h.left s h.level | false ↦ h ]
            | false ↦ elim (lt_z (pos 0) (dot f s.rule)) [ true ↦ held_with h.left h.right s | false ↦ h ]
          ]
    ]

abbrev pub turned_of : Constraint → Point → Side → Held → Held
turned_of f v s h = elim (is_zero (slack s.rule v)) [ true ↦ placed_of f s h | false ↦ h ]

-- over a chain's records and rules
abbrev pub pass_of : Constraint → Point → List ℕ → List Constraint → Held → Held
pass_of f v [] rules h = h
pass_of f v (i ∷ is) [] h = h
pass_of f v (i ∷ is) (c ∷ cs) h = pass_of f v is cs (turned_of f v (side (pos (i + 1)) c) h)

-- the floors come first
abbrev pub floors_held : Constraint → Point → Floors → Held
floors_held f v floors =
    turned_of f v (side (pos 1) (floor_y floors)) (turned_of f v (side (pos 0) (floor_x floors)) (nothing_held f))

abbrev pub held_of : Functional → Point → Floors → List ℕ → List Constraint → Held
held_of f v floors records rules = pass_of (normal_of f) v records rules (floors_held (normal_of f) v floors)
