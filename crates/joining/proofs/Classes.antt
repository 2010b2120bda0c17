-- How many rules a version 2 book can have: by its length, and at all. Books of a size class have room in the runs of that class.
use mathlib.Core.Path.{◌≡◌, sym, ◌∙◌}
use mathlib.Core.Bool.{Bool, true}
use mathlib.Core.List.{List}
use Prim.Native.Nat.{ℕ, ◌+◌, ◌*◌, ◌≤◌}
use native.Mathlib.Omega.{arith}
use borrow.Author.Tests.{leb-true}
use lib.Dec.{leb}
use lib.ListN.{length}
use lib.IntN.{ℤ}
use Rattle.records.specs.Layout.{v2}
use Rattle.book.specs.Runs.{Few}
use Rattle.book.proofs.Causes.{count-is, count_small}
use Rattle.amounts.proofs.Tests.{both}
use Rattle.joining.specs.Running.{BothFew, Roomy, both_within}

few_of_length : (s : List ℕ) (n : ℕ) → length s ≤ (n + 1) * 14 → Few v2 s n
few_of_length s n h clear = omega (arith, h, count-is v2 s clear)

pub few_of_lengths : (s u : List ℕ) (n bytes : ℕ) → bytes ≡ (n + 1) * 14 → length s ≤ bytes → length u ≤ bytes → BothFew s u n
few_of_lengths s u n bytes e hs hu =
    record { site = few_of_length s n (omega (arith, e, hs)); tenant = few_of_length u n (omega (arith, e, hu)) }

pub few-by-length : (s u : List ℕ) (n bytes : ℕ) → bytes ≡ (n + 1) * 14 → {b : Bool} → b ≡ both_within s u bytes → b ≡ true → BothFew s u n
few-by-length s u n bytes e told held =
    let tests = both (leb (length s) bytes) (leb (length u) bytes) (sym told ∙ held) in
    few_of_lengths s u n bytes e (leb-true (length s) bytes tests.0) (leb-true (length u) bytes tests.1)

pub roomy : (s u : List ℕ) (n : ℕ) →
    BothFew s u n →
    (names : List ℕ) (l : List ℤ) →
    length names ≡ 2 * n →
    length l ≡ 6 * n + 6 →
    Roomy s u names l
roomy s u n few names l en el = record { most = n; few = few; records = en; rules = el }

-- no book has more than 4,095 rules
pub most-rules : (s u : List ℕ) → BothFew s u 4095
most-rules s u =
    record { site = λ clear. omega (arith, count_small v2 s clear); tenant = λ clear. omega (arith, count_small v2 u clear) }
