-- How any bytes are read as a slip. A text stands for what is left of it; a field begins with the byte before it, a space in a line, and
-- ends before the next space or line feed. That the line of a slip is read as that slip is proved in proofs/Lines.antt; nothing here stands
-- in a promise, since what was read is written again and compared.
use Rattle.std.specs.Prelude.{List, [], ◌∷◌, Bool, true, false, cond, ◌&&◌, ◌||◌, ℕ, ◌+◌, ◌-◌, ◌*◌, eqb, leb, get_or, drop}
use Rattle.std.specs.Prelude.{ℤ, pos, negsuc, neg_ℤ, ◌+ℤ◌}
use Rattle.std.specs.Int.Signed.{le_z, lt_z}
use Rattle.lp.specs.declared.Point.{Point}
use Rattle.lp.specs.declared.Outcome.TheVariants.{Infeasible, Unbounded, Optimal}
use Rattle.lp.specs.Program.{point, ray}
use Rattle.slip.specs.declared.Weights.{Weights}
use Rattle.slip.specs.declared.Slip.{Slip}
use Rattle.slip.specs.Weights as weights

-- ---- bytes

-- a space or a line feed
abbrev pub ends : ℕ → Bool
ends b = eqb b 32 || eqb b 10

-- a number with a digit more; what is beyond every number of 64 bits stays
abbrev pub grown : ℕ → ℕ → ℕ
grown n b = cond (leb n 922337203685477580) (n * 10 + (b - 48)) n

unfoldable pub size_from : ℕ → List ℕ → ℕ
size_from n [] = n
size_from n (b ∷ l) = cond (ends b) n (size_from (grown n b) l)

unfoldable pub past : List ℕ → List ℕ
past [] = []
past (b ∷ l) = cond (ends b) (b ∷ l) (past l)

-- ---- numbers

abbrev pub greatest : ℕ
greatest = 9223372036854775807

-- as far as 64 bits go
abbrev pub signed_of : Bool → ℕ → ℤ
signed_of negative n =
    cond (leb n greatest) (cond negative (neg_ℤ (pos n)) (pos n)) (cond negative (negsuc greatest) (pos greatest))

-- 45 is the minus
abbrev pub is_minus : List ℕ → Bool
is_minus l = eqb (get_or l 0 0) 45

abbrev pub digits_in : List ℕ → List ℕ
digits_in l = cond (is_minus (drop 1 l)) (drop 1 (drop 1 l)) (drop 1 l)

unfoldable pub integer_in : List ℕ → ℤ
integer_in l = signed_of (is_minus (drop 1 l)) (size_from 0 (digits_in l))

unfoldable pub past_field : List ℕ → List ℕ
past_field l = past (digits_in l)

-- ---- entries

-- the code of a record's index
abbrev pub record_code : ℤ → ℤ
record_code z =
    elim (le_z z (pos 0)) [
      | true ↦ pos 0
      | false ↦ elim (lt_z z (pos greatest)) [ true ↦ z +ℤ pos 1 | false ↦ z ]
    ]

-- 88 and 89 are X and Y
unfoldable pub code_in : List ℕ → ℤ
code_in l =
    elim (eqb (get_or (drop 1 l) 0 0) 88) [
      | true ↦ pos 0
      | false ↦ elim (eqb (get_or (drop 1 l) 0 0) 89) [ true ↦ pos 1 | false ↦ record_code (integer_in l) ]
    ]

unfoldable pub slot_code : Bool → List ℕ → ℤ
slot_code counts l = cond counts (code_in l) (pos 0)

unfoldable pub slot_weight : Bool → List ℕ → ℤ
slot_weight counts l = cond counts (integer_in (past_field l)) (pos 0)

unfoldable pub past_slot : Bool → List ℕ → List ℕ
past_slot counts l = cond counts (past_field (past_field l)) l

abbrev pub weights_of : ℤ → ℤ → Bool → Bool → Bool → List ℕ → Weights
weights_of scale count one two three l =
    record {
      scale = scale;
      count = count;
      first = slot_code one l;
      first_weight = slot_weight one l;
      second = slot_code two (past_slot one l);
      second_weight = slot_weight two (past_slot one l);
      third = slot_code three (past_slot two (past_slot one l));
      third_weight = slot_weight three (past_slot two (past_slot one l));
    }

abbrev pub counted_of : ℤ → ℤ → List ℕ → Weights
counted_of scale count l =
    weights_of scale count (lt_z (pos 0) count) (lt_z (pos 0) count && lt_z (pos 1) count)
    (lt_z (pos 0) count && lt_z (pos 1) count && lt_z (pos 2) count) l

unfoldable pub weights_in : ℤ → List ℕ → Weights
weights_in scale l = counted_of scale (integer_in l) (past_field l)

abbrev pub no_weights : Weights
no_weights = weights.no_weights (pos 0)

-- ---- the slip

unfoldable pub point_in : List ℕ → Point
point_in l = point (integer_in l) (integer_in (past_field l)) (integer_in (past_field (past_field l)))

unfoldable pub past_pair : List ℕ → List ℕ
past_pair l = past_field (past_field (past_field l))

abbrev pub best_in : List ℕ → Slip
best_in l =
    record { outcome = Optimal (point_in l); weights = weights_in (integer_in (past_pair l)) (past_field (past_pair l)) }

abbrev pub unlimited_in : List ℕ → Slip
unlimited_in l =
    record {
      outcome = Unbounded (point_in l) (ray (integer_in (past_pair l)) (integer_in (past_field (past_pair l))));
      weights = no_weights;
    }

abbrev pub impossible_in : List ℕ → Slip
impossible_in l = record { outcome = Infeasible; weights = weights_in (pos 0) l }

-- 98 and 117 are the first letters of `best` and `unlimited`
abbrev pub slip_in : List ℕ → Slip
slip_in text =
    elim (eqb (get_or text 0 0) 98) [
      | true ↦ best_in (drop 4 text)
      | false ↦ elim (eqb (get_or text 0 0) 117) [ true ↦ unlimited_in (drop 9 text) | false ↦ impossible_in (drop 10 text) ]
    ]
