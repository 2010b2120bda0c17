-- Two books joined, as the private functions go about it: what they ask of the runs that they are lent, and what they leave in them. Nothing
-- here stands in a promise of a function that can be called from outside.
use Rattle.std.specs.Prelude.{◌≡◌, Bool, ◌&&◌, List, ◌++◌, ℕ, ◌+◌, ◌*◌, ◌≤◌, ◌<◌, leb, length, get_or, ℤ, pos, Result, Ok, Err}
use Rattle.lp.specs.declared.Constraint.{Constraint}
use Rattle.lp.specs.declared.Terms.{Terms}
use Rattle.lp.specs.Program.{constraint}
use Rattle.answers.specs.declared.Refusal.{Refusal}
use Rattle.answers.specs.Refusal.{refusal}
use Rattle.records.specs.Layout.{v2}
use Rattle.book.specs.declared.Head.{Head}
use Rattle.book.specs.Reading.{Reading, refused, accepted, Entry, read_of, rules_of, records_of}
use Rattle.book.specs.Runs.{Few}
use Rattle.book.specs.Promises.{head_of}
use Rattle.engine.specs.Entries.{entry, entries}
use Rattle.joining.specs.declared.JointRefusal.{JointRefusal}
use Rattle.joining.specs.declared.JointRefusal.TheVariants.{Site, Tenant}
use Rattle.joining.specs.declared.read.Heads.{Heads}

abbrev pub no_rule : Constraint
no_rule = constraint (pos 0) (pos 0) (pos 0)

-- ---- room

-- each of the books counts at most n rules, if its header is not refused
pub record BothFew (s u : List ℕ) (n : ℕ) : Type 0 where
  pub site : Few v2 s n
  pub tenant : Few v2 u n

-- room for n rules of each book, and for the floors before them
pub record Roomy (s u names : List ℕ) (l : List ℤ) : Type 0 where
  pub most : ℕ
  pub few : BothFew s u most
  pub records : length names ≡ 2 * most
  pub rules : length l ≡ 6 * most + 6

-- ---- a book read behind n rules that stand in the runs

pub record Behind (names : List ℕ) (l : List ℤ) (n : ℕ) : Type 0 where
  pub records : n ≤ length names
  pub rules : 3 * (n + 2) ≤ length l
  pub few : n < 4096

-- the chain's records and rules stand behind them
pub record Stand (es : List Entry) (n : ℕ) (names : List ℕ) (l : List ℤ) : Type 0 where
  pub named : (i : ℕ) → i < length es → get_or names (n + i) 0 ≡ get_or (records_of es) i 0
  pub ruled : (i : ℕ) → i < length es → entry l (n + i + 2) ≡ get_or (rules_of es) i no_rule

pub record ReadsBehind (s : List ℕ) (n : ℕ) (names : List ℕ) (l : List ℤ) (r : Result Head Refusal) (names' : List ℕ)
    (l' : List ℤ) : Type 0 where
  pub answer : r ≡ head_of (read_of v2 s)
  pub same_names : length names' ≡ length names
  pub same_length : length l' ≡ length l
  pub names-before : (i : ℕ) → i < n → get_or names' i 0 ≡ get_or names i 0
  pub rules-before : (k : ℕ) → k < n + 2 → entry l' k ≡ entry l k
  pub stand : (t : Terms) (es : List Entry) →
      read_of v2 s ≡ accepted t es →
      n + length es ≤ length names →
      3 * (n + length es + 2) ≤ length l →
      Stand es n names' l'

-- ---- both books read

-- the site's chain and then the tenant's, as names and as rules
pub record Laid (es fs : List Entry) (names : List ℕ) (l : List ℤ) : Type 0 where
  pub records : length es + length fs ≤ length names
  pub room : 3 * (length es + length fs + 2) ≤ length l
  pub site-names : (i : ℕ) → i < length es → get_or names i 0 ≡ get_or (records_of es) i 0
  pub tenant-names : (i : ℕ) → i < length fs → get_or names (length es + i) 0 ≡ get_or (records_of fs) i 0
  pub rules : entries l 2 (length es + length fs) ≡ rules_of es ++ rules_of fs

-- the first refusal of the two, or what both read as and their chains
abbrev pub ReadBy : Reading → Reading → Result Heads JointRefusal → List ℕ → List ℤ → Type 0
ReadBy (refused n i) y r names l = r ≡ Err (Site (refusal n i))
ReadBy (accepted t es) (refused n i) r names l = r ≡ Err (Tenant (refusal n i))
ReadBy (accepted t es) (accepted t' fs) r names l =
    (r ≡ Ok (record { site = record { terms = t; n = length es }; tenant = record { terms = t'; n = length fs } })) × Laid es fs names l

pub record ReadsBoth (s u : List ℕ) (r : Result Heads JointRefusal) (names : List ℕ) (l : List ℤ) : Type 0 where
  pub reads : ReadBy (read_of v2 s) (read_of v2 u) r names l

-- ---- the tenant's records named

pub record Renaming (names : List ℕ) (n m : ℕ) : Type 0 where
  pub room : n + m ≤ length names
  pub small : (i : ℕ) → n ≤ i → i < n + m → get_or names i 0 < 4096

pub record Renamed (before : List ℕ) (n m : ℕ) (after : List ℕ) : Type 0 where
  pub same_length : length after ≡ length before
  pub site : (i : ℕ) → i < n → get_or after i 0 ≡ get_or before i 0
  pub tenant : (i : ℕ) → n ≤ i → i < n + m → get_or after i 0 ≡ 4096 + get_or before i 0

-- ---- the size of two books

abbrev pub both_within : List ℕ → List ℕ → ℕ → Bool
both_within s u bytes = leb (length s) bytes && leb (length u) bytes
