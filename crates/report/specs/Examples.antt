-- Answers with their lines, spelt out. In a witness 0 is floor x, 1 is floor y, and r + 1 is the rule
-- in record r; of two books joined, 4,097 + r is the rule in the tenant's record r.
use Rattle.std.specs.Prelude.{List, [], ◌∷◌, ℕ, ℤ, pos, negsuc, Ok, Err}
use Prim.Native.String.{String}
use Rattle.lp.specs.declared.Outcome.{Outcome}
use Rattle.lp.specs.declared.Outcome.TheVariants.{Infeasible, Unbounded, Optimal}
use Rattle.lp.specs.declared.Certificate.{Certificate}
use Rattle.lp.specs.Program.{point, ray}
use Rattle.answers.specs.Refusal.{refusal}
use Rattle.answers.specs.Answer.{Answer}
use Rattle.report.specs.declared.Naming.{Naming}
use Rattle.report.specs.declared.Naming.TheVariants.{OneBook, TwoBooks}

pub record Example : Type 0 where
  pub naming : Naming
  pub answer : Answer
  pub line : String

abbrev row : Answer → String → Example
row answer line = record { naming = OneBook; answer = answer; line = line }

abbrev joint : Answer → String → Example
joint answer line = record { naming = TwoBooks; answer = answer; line = line }

abbrev weights : ℕ → ℤ → ℕ → ℤ → ℕ → ℤ → Certificate
weights e u f v g w =
    record {
      first = e;
      first_weight = u;
      second = f;
      second_weight = v;
      third = g;
      third_weight = w;
    }

abbrev planned : Outcome → ℕ → ℕ → Answer
planned outcome moves opened =
    Ok
    (record {
      outcome = outcome;
      moves = moves;
      opened = opened;
      place = 0;
      witness = weights 0 (pos 0) 0 (pos 0) 0 (pos 0);
    })

abbrev none : ℕ → ℕ → ℕ → Certificate → Answer
none place moves opened witness =
    Ok (record { outcome = Infeasible; moves = moves; opened = opened; place = place; witness = witness })

abbrev pub examples : List Example
examples =
    row (planned (Optimal (point (pos 2) (pos 3) (pos 1))) 1 1) "best 2 3 1 1 1\n"
    ∷ row (planned (Optimal (point (pos 1000000000) (pos 0) (pos 32767))) 0 10) "best 1000000000 0 32767 0 10\n"
    ∷ row (planned (Optimal (point (negsuc 9223372036854775807) (negsuc 0) (pos 9))) 0 0) "best -9223372036854775808 -1 9 0 0\n"
    ∷ row (planned (Unbounded (point (pos 0) (pos 0) (pos 1)) (ray (pos 1) (pos 12))) 0 2) "unlimited 0 0 1 1 12 0 2\n"
    ∷ row (none 2 1 0 (weights 0 (pos 5) 2 (pos 1) 3 (pos 10))) "impossible 2 1 0 3 X 5 1 1 2 10\n"
    ∷ row (none 9 3 1 (weights 0 (pos 7) 1 (pos 8) 256 (pos 9))) "impossible 9 3 1 3 X 7 Y 8 255 9\n"
    ∷ row (none 1 1 0 (weights 2 (pos 1) 0 (pos 0) 0 (pos 0))) "impossible 1 1 0 1 1 1\n"
    ∷ joint (none 2 1 1 (weights 2 (pos 1) 4098 (pos 1) 0 (pos 0))) "impossible 2 1 1 2 S1 1 T1 1\n"
    ∷ joint (none 4097 3 1 (weights 1 (pos 7) 4096 (pos 8) 8192 (pos 9))) "impossible 4097 3 1 3 Y 7 S4095 8 T4095 9\n"
    ∷ joint (planned (Optimal (point (pos 2) (pos 3) (pos 1))) 1 1) "best 2 3 1 1 1\n"
    ∷ row (Err (refusal 7 0)) "refused 7 0\n"
    ∷ row (Err (refusal 10 255)) "refused 10 255\n"
    ∷ row (Err (refusal 255 65535)) "refused 255 65535\n"
    ∷ []
