-- What the checker's private functions ask of their numbers, one record for each, and the runs that a book is read into: a chain's records,
-- one a place, and its rules, three numbers a rule. No function that is called from outside asks anything.
use Rattle.std.specs.Prelude.{◌≡◌, List, [], ◌∷◌, ℕ, zero, suc, ◌+◌, ◌*◌, ◌≤◌, ◌<◌, length, get_or, ℤ, pos}
use Rattle.ints.specs.Within.{Within}
use Rattle.records.specs.Layout.{v2}
use Rattle.records.specs.Header.{header_fault, count_of}
use Rattle.lp.specs.declared.Constraint.{Constraint}
use Rattle.lp.specs.declared.Functional.{Functional}
use Rattle.lp.specs.declared.Floors.{Floors}
use Rattle.lp.specs.declared.Terms.{Terms}
use Rattle.lp.specs.declared.Point.{Point}
use Rattle.lp.specs.declared.Ray.{Ray}
use Rattle.lp.specs.Program.{constraint}
use Rattle.lp.specs.Range.{SmallConstraint, SmallFunctional, SmallFloors, SmallTerms}

-- ---- sizes

-- of two products
pub record Factors (p q s t : ℤ) : Type 0 where
  pub p-small : Within 32767 p
  pub q-small : Within 32767 q
  pub s-small : Within 32767 s
  pub t-small : Within 32767 t

-- of c·d − (a·x + b·y)
pub record Distance (a x b y c d : ℤ) : Type 0 where
  pub a_small : Within 32767 a
  pub x-small : Within 65534000000000 x
  pub b-small : Within 32767 b
  pub y-small : Within 65534000000000 y
  pub c-small : Within 1000000000 c
  pub d_small : Within 2147352578 d

-- a pair as its ranges allow it
pub record SmallPair (v : Point) : Type 0 where
  pub x-small : Within 65534000000000 v.x
  pub y-small : Within 65534000000000 v.y
  pub d_small : Within 2147352578 v.d

pub record SmallDirection (d : Ray) : Type 0 where
  pub dx-small : Within 32767 d.dx
  pub dy-small : Within 32767 d.dy

pub record Placed (r : Constraint) (v : Point) : Type 0 where
  pub rule : SmallConstraint r
  pub pair : SmallPair v

pub record Risen (r : Constraint) (d : Ray) : Type 0 where
  pub rule : SmallConstraint r
  pub ray : SmallDirection d

pub record Gained (f : Functional) (d : Ray) : Type 0 where
  pub objective : SmallFunctional f
  pub ray : SmallDirection d

pub record Scaled (scale part : ℤ) : Type 0 where
  pub scale_small : Within 2147352578 scale
  pub part_small : Within 32767 part

-- of w·x + t, where t is at most two such products
pub record Fused (w x t : ℤ) : Type 0 where
  pub w-small : Within 2147352578 w
  pub x-small : Within 1000000000 x
  pub t-small : Within 4294705156000000000 t

pub record Summed (w : ℤ) (r total : Constraint) : Type 0 where
  pub weight : Within 2147352578 w
  pub rule : SmallConstraint r
  pub a_small : Within 4294705156000000000 total.a
  pub b-small : Within 4294705156000000000 total.b
  pub c-small : Within 4294705156000000000 total.c

-- ---- the runs

abbrev pub entry : List ℤ → ℕ → Constraint
entry l k = constraint (get_or l (3 * k) (pos 0)) (get_or l (3 * k + 1) (pos 0)) (get_or l (3 * k + 2) (pos 0))

-- n rules from place i on, and n records
abbrev pub entries : List ℤ → ℕ → ℕ → List Constraint
entries l i zero = []
entries l i (suc n) = entry l i ∷ entries l (suc i) n

abbrev pub indices : List ℕ → ℕ → ℕ → List ℕ
indices l i zero = []
indices l i (suc n) = get_or l i 0 ∷ indices l (suc i) n

pub record Room (l : List ℤ) (k : ℕ) : Type 0 where
  pub room : 3 * k + 2 < length l

-- n rules, each within its range
pub record Entries (l : List ℤ) (n : ℕ) : Type 0 where
  pub room : 3 * n ≤ length l
  pub small : (k : ℕ) → k < n → SmallConstraint (entry l k)

pub record Finding (records : List ℕ) (l : List ℤ) (n : ℕ) : Type 0 where
  pub names : n ≤ length records
  pub room : 3 * n ≤ length l

pub record Checking (l : List ℤ) (n : ℕ) (v : Point) : Type 0 where
  pub entries : Entries l n
  pub pair : SmallPair v

pub record Rising (l : List ℤ) (n : ℕ) (d : Ray) : Type 0 where
  pub entries : Entries l n
  pub ray : SmallDirection d

pub record Naming (floors : Floors) (records : List ℕ) (l : List ℤ) (n : ℕ) : Type 0 where
  pub floors-small : SmallFloors floors
  pub finding : Finding records l n

-- room for as many rules as the header counts
pub record Roomy (s records : List ℕ) (l : List ℤ) : Type 0 where
  pub names : header_fault v2 s ≡ 0 → count_of v2 s ≤ length records
  pub rules : header_fault v2 s ≡ 0 → 3 * count_of v2 s ≤ length l

-- a chain of n rules in the runs, and what it is planned under
pub record Chain (t : Terms) (records : List ℕ) (rules : List ℤ) (n : ℕ) : Type 0 where
  pub terms : SmallTerms t
  pub names : n ≤ length records
  pub entries : Entries rules n

-- ---- what the facts ask

pub record Allowing (floors : Floors) (l : List ℤ) (n : ℕ) (v : Point) : Type 0 where
  pub floors-small : SmallFloors floors
  pub entries : Entries l n
  pub pair : SmallPair v

pub record Balancing (scale : ℤ) (f : Functional) : Type 0 where
  pub scale_small : Within 2147352578 scale
  pub objective : SmallFunctional f
