-- The weights of a slip: of an optimum, three determinants of the objective's normal f with the two entries that enclose it, or two
-- products with the one that has its direction; of a conflict, those of the plan's witness. What is not used is 0.
use Rattle.std.specs.Prelude.{List, true, false, ℕ, ◌^◌, ◌<◌, ℤ, pos}
use Rattle.std.specs.Int.Signed.{lt_z}
use Rattle.lp.specs.declared.Constraint.{Constraint}
use Rattle.lp.specs.declared.Terms.{Terms}
use Rattle.lp.specs.declared.Point.{Point}
use Rattle.lp.specs.declared.Certificate.{Certificate}
use Rattle.lp.specs.Outcome.{det}
use Rattle.lp.specs.Certificate.{is_zero}
use Rattle.lp.specs.Range.{SmallConstraint}
use Rattle.slip.specs.declared.Weights.{Weights}
use Rattle.slip.specs.Weights.{no_weights}
use Rattle.slips.specs.declared.pass.Side.{Side}
use Rattle.slips.specs.declared.pass.Held.{Held}
use Rattle.slips.specs.Pass.{normal_of, dot, held_of}
use Rattle.slips.specs.Runs.{SmallHeld}

abbrev pub weights_with : (scale count first w₁ second w₂ third w₃ : ℤ) → Weights
weights_with scale count first w₁ second w₂ third w₃ =
    record {
      scale = scale;
      count = count;
      first = first;
      first_weight = w₁;
      second = second;
      second_weight = w₂;
      third = third;
      third_weight = w₃;
    }

-- ---- of an optimum

-- one entry, of f's direction
abbrev pub one_weight : Constraint → Side → Weights
one_weight f s =
    weights_with (dot s.rule s.rule) (pos 1) s.code (dot f s.rule) (pos 0) (pos 0) (pos 0) (pos 0)

-- two that enclose it, codes rising
abbrev pub two_weights : Constraint → Side → Side → Weights
two_weights f r l =
    elim (lt_z r.code l.code) [
      | true ↦
          weights_with (det r.rule l.rule) (pos 2) r.code (det f l.rule) l.code (det r.rule f) (pos 0) (pos 0)
      | false ↦
          weights_with (det r.rule l.rule) (pos 2) l.code (det r.rule f) r.code (det f l.rule) (pos 0) (pos 0)
    ]

abbrev pub weights_of : Constraint → Held → Weights
weights_of f h =
    elim (lt_z (pos 0) (dot f h.level.rule)) [
      | true ↦ one_weight f h.level
      | false ↦ elim (lt_z (pos 0) (det h.right.rule h.left.rule)) [
        | true ↦ two_weights f h.right h.left
        | false ↦ no_weights
            (pos 1)
      ]
    ]

-- of the best pair of a chain
abbrev pub best_weights : Terms → Point → List ℕ → List Constraint → Weights
best_weights t v records rules = weights_of (normal_of t.objective) (held_of t.objective v t.floors records rules)

-- ---- of a conflict

abbrev pub used_of : Certificate → ℤ
used_of k = elim (is_zero k.second_weight) [ true ↦ pos 1 | false ↦ elim (is_zero k.third_weight) [ true ↦ pos 2 | false ↦ pos 3 ] ]

abbrev pub conflict_weights : Certificate → Weights
conflict_weights k =
    weights_with (pos 0) (used_of k) (pos k.first) k.first_weight (pos k.second) k.second_weight (pos k.third)
    k.third_weight

-- ---- what the functions ask

pub record SmallCodes (k : Certificate) : Type 0 where
  pub first : k.first < 2 ^ 63
  pub second : k.second < 2 ^ 63
  pub third : k.third < 2 ^ 63

pub record Enclosing (f : Constraint) (r l : Side) : Type 0 where
  pub objective : SmallConstraint f
  pub right : SmallConstraint r.rule
  pub left : SmallConstraint l.rule

pub record Along (f : Constraint) (s : Side) : Type 0 where
  pub objective : SmallConstraint f
  pub entry : SmallConstraint s.rule

pub record Weighing (f : Constraint) (h : Held) : Type 0 where
  pub objective : SmallConstraint f
  pub held : SmallHeld h
