-- Document 01's case and small books of each outcome, with right slips and slips that are wrong in one thing, computed: the definitions say
-- what document 02 says of them.
use mathlib.Core.Path.{◌≡◌, refl}
use mathlib.Core.List.{List, [], ◌∷◌}
use Prim.Native.Nat.{ℕ}
use lib.IntN.{ℤ, pos, negsuc}
use Rattle.lp.specs.declared.Terms.{Terms}
use Rattle.lp.specs.declared.Outcome.{Outcome}
use Rattle.lp.specs.declared.Outcome.TheVariants.{Infeasible, Unbounded, Optimal}
use Rattle.lp.specs.Program.{point, ray}
use Rattle.book.specs.Reading.{Reading, Entry, refused, accepted}
use Rattle.answers.specs.Refusal.{refusal}
use Rattle.slip.specs.declared.Slip.{Slip}
use Rattle.slip.specs.declared.Verdict.TheVariants.{Refused, Yes, No}
use Rattle.slip.specs.Facts.{Share, share, verdict_of}

-- ---- books

-- the objective x + y, with no floors but 0
abbrev one_each : Terms
one_each = record { objective = record { p = pos 1; q = pos 1 }; floors = record { lx = pos 0; ly = pos 0 } }

-- a rule a·x + b·y ≤ c in a record
abbrev rule : ℕ → ℤ → ℤ → ℤ → Entry
rule index a b c = record { index = index; rule = record { kind = 1; a = a; b = b; c = c; label = index } }

-- document 01's rules: x + 2·y ≤ 8 in record 2, and then 3·x + y ≤ 9 in record 1; other rules follow them
abbrev whole_case : List Entry → Reading
whole_case rest = accepted one_each (rule 2 (pos 1) (pos 2) (pos 8) ∷ rule 1 (pos 3) (pos 1) (pos 9) ∷ rest)

-- one rule, x ≤ c
abbrev below : ℤ → Reading
below c = accepted one_each (rule 1 (pos 1) (pos 0) c ∷ [])

-- ---- slips

-- a count of entries, the scale, and the three slots
abbrev slip : Outcome → ℤ → ℤ → Share → Share → Share → Slip
slip o count scale first second third =
    record {
      outcome = o;
      weights = record {
        scale = scale;
        count = count;
        first = first.code;
        first_weight = first.weight;
        second = second.code;
        second_weight = second.weight;
        third = third.code;
        third_weight = third.weight;
      };
    }

abbrev unused : Share
unused = share (pos 0) (pos 0)

-- of a best pair X/D, Y/D: twice the rule in record 2 and once that in record 1 are 5 times the objective
abbrev best : ℤ → ℤ → ℤ → ℤ → Slip
best x y d scale = slip (Optimal (point x y d)) (pos 2) scale (share (pos 3) (pos 2)) (share (pos 2) (pos 1)) unused

-- of an unlimited plan from the pair (0, 0)
abbrev unlimited : ℤ → ℤ → Slip
unlimited dx dy = slip (Unbounded (point (pos 0) (pos 0) (pos 1)) (ray dx dy)) (pos 0) (pos 0) unused unused unused

-- of an impossible one: floor x and the rule in record 1, once each
abbrev impossible : Slip
impossible = slip Infeasible (pos 2) (pos 0) (share (pos 0) (pos 1)) (share (pos 2) (pos 1)) unused

-- ---- right slips

pub best-said : verdict_of (whole_case []) (best (pos 2) (pos 3) (pos 1) (pos 5)) ≡ Yes
best-said = refl

-- the same pair with a D of 2
pub best-halves-said : verdict_of (whole_case []) (best (pos 4) (pos 6) (pos 2) (pos 5)) ≡ Yes
best-halves-said = refl

pub unlimited-said : verdict_of (accepted one_each []) (unlimited (pos 1) (pos 0)) ≡ Yes
unlimited-said = refl

pub impossible-said : verdict_of (below (negsuc 0)) impossible ≡ Yes
impossible-said = refl

-- ---- slips that are wrong in one thing

-- the pair (0, 0) is allowed, and no entry holds with equality there
pub not-tight : verdict_of (whole_case []) (best (pos 0) (pos 0) (pos 1) (pos 5)) ≡ No
not-tight = refl

pub other-scale : verdict_of (whole_case []) (best (pos 2) (pos 3) (pos 1) (pos 4)) ≡ No
other-scale = refl

-- x ≤ 1 stands in a third rule
pub not-allowed : verdict_of (whole_case (rule 3 (pos 1) (pos 0) (pos 1) ∷ [])) (best (pos 2) (pos 3) (pos 1) (pos 5)) ≡ No
not-allowed = refl

-- a direction that gains nothing, and one that leaves a rule
pub no_gain : verdict_of (accepted one_each []) (unlimited (pos 0) (pos 0)) ≡ No
no_gain = refl

pub rule-left : verdict_of (whole_case []) (unlimited (pos 1) (pos 0)) ≡ No
rule-left = refl

-- x ≤ 0 does not conflict with the floor
pub sum_of_0 : verdict_of (below (pos 0)) impossible ≡ No
sum_of_0 = refl

-- ---- slips that are out of range

pub no_divisor : verdict_of (whole_case []) (best (pos 2) (pos 3) (pos 0) (pos 5)) ≡ Refused (refusal 17 0)
no_divisor = refl

pub entry-twice : verdict_of (whole_case [])
    (slip (Optimal (point (pos 2) (pos 3) (pos 1))) (pos 2) (pos 5) (share (pos 3) (pos 2)) (share (pos 3) (pos 1)) unused)
    ≡ Refused (refusal 17 0)
entry-twice = refl

-- record 4 is not on the chain
pub spare-record : verdict_of (whole_case [])
    (slip (Optimal (point (pos 2) (pos 3) (pos 1))) (pos 1) (pos 5) (share (pos 5) (pos 2)) unused unused) ≡ Refused (refusal 17 0)
spare-record = refl

pub no_entry : verdict_of (below (negsuc 0)) (slip Infeasible (pos 0) (pos 0) unused unused unused) ≡ Refused (refusal 17 0)
no_entry = refl

pub backwards : verdict_of (accepted one_each []) (unlimited (negsuc 0) (pos 1)) ≡ Refused (refusal 17 0)
backwards = refl

-- the book's own refusal comes before 17
pub books_own_first : verdict_of (refused 9 1) (unlimited (negsuc 0) (pos 1)) ≡ Refused (refusal 9 1)
books_own_first = refl
