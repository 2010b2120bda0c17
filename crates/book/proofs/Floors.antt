-- The floors of an accepted book (request 106): zero in version 1, the header's last four bytes in version 2, x first. Nothing that stands
-- in these bytes refuses a version 2 book.
use Prim.Native.Nat.{ℕ}
use mathlib.Core.Path.{◌≡◌, ap}
use mathlib.Core.List.{List}
use native.Mathlib.Omega.{arith}
use lib.ListN.{drop}
use mir.Syntax.{w16}
use mir.Val.{to_z}
use Rattle.lp.specs.declared.Terms.{Terms}
use Rattle.lp.specs.Document.{zero_floors}
use Rattle.records.specs.Layout.{Layout, v1, v2}
use Rattle.records.specs.Number.{number}
use Rattle.records.specs.Record.{record_at}
use Rattle.records.specs.Header.{floors_of}
use Rattle.book.specs.Reading.{Entry, accepted, read_of}
use Rattle.book.specs.Causes.{WrongTail, set, Applies}
use Rattle.book.proofs.Causes.{acceptance_means, cause-number}

floors_are : (L : Layout) (s : List ℕ) {t : Terms} {es : List Entry} → read_of L s ≡ accepted t es → t.floors ≡ floors_of L s
floors_are L s e = ap (λ (t : Terms). t.floors) (acceptance_means L s e).terms

-- version 1's are zero
pub floors-zero : (s : List ℕ) {t : Terms} {es : List Entry} → read_of v1 s ≡ accepted t es → t.floors ≡ zero_floors
floors-zero s e = floors_are v1 s e

-- version 2's are written in bytes 10 to 13 of the header
pub floors-written : (s : List ℕ) {t : Terms} {es : List Entry} →
    read_of v2 s ≡ accepted t es →
    t.floors ≡ record {
      lx = to_z w16 (number 2 (drop 10 (record_at v2 s 0)));
      ly = to_z w16 (number 2 (drop 12 (record_at v2 s 0)));
    }
floors-written s e = floors_are v2 s e

-- 5 never occurs there
pub tail-lawful : (s : List ℕ) (k i : ℕ) → Applies v2 s k i → k ≡ 5 → ⊥
tail-lawful s k i c e = clear ((cause-number c).2 e)
  where
    clear : WrongTail v2 s → ⊥
    clear (set none c) = let z : ◌≡◌ {A = ℕ} 0 1 = cc in omega arith
