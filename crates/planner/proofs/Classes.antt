-- How many rules a book can have: by its length, and by its version. A book of a size class has room in the runs of that class. What is
-- known of each version's bytes holds of the book that has them.
use mathlib.Core.Path.{◌≡◌, subst, sym, ap, ◌∙◌}
use mathlib.Core.List.{List}
use Prim.Native.Nat.{ℕ, ◌+◌, ◌*◌, ◌≤◌}
use native.Mathlib.Omega.{arith}
use lib.ListN.{length}
use lib.IntN.{ℤ}
use Rattle.records.specs.declared.Version.{Version}
use Rattle.records.specs.declared.Version.TheVariants.{One, Two}
use Rattle.records.specs.Layout.{Layout, v1, v2, layout_of, width}
use Rattle.records.specs.Encoded.{Encoded, encoded}
use Rattle.book.proofs.Bounds.{chain-count, count_room}
use Rattle.book.proofs.Causes.{count-is}
use Rattle.planner.specs.Running.{Roomy, Whole}
use Rattle.book.specs.Runs.{Few}

pub few-roomy : (L : Layout) (s : List ℕ) (n : ℕ) →
    Few L s n →
    (records : List ℕ) (l : List ℤ) →
    length records ≡ n →
    length l ≡ 3 * (n + 2) →
    Roomy L s records l
few-roomy L s n few records l er el =
    record {
      names = λ clear. omega (arith, few clear);
      rules = λ clear. omega (arith, few clear);
      floors = omega arith;
    }

-- a book of so many records' bytes has no more rules than one record less
few_of_width : (v : Version) (s : List ℕ) (n : ℕ) → length s ≤ (n + 1) * width (layout_of v) → Few (layout_of v) s n
few_of_width One s n h clear = omega (arith, h, count-is v1 s clear)
few_of_width Two s n h clear = omega (arith, h, count-is v2 s clear)

-- a record has no more than 14 bytes
narrow : (v : Version) → width (layout_of v) ≤ 14
narrow One = omega arith
narrow Two = omega arith

-- 65,535 rules are the whole chain
whole : (v : Version) (s : List ℕ) → Whole (layout_of v) s 65535
whole One s t es e = omega (arith, chain-count v1 s e, count_room v1 s e)
whole Two s t es e = omega (arith, chain-count v2 s e, count_room v2 s e)

module _ (v : Version) (s : List ℕ) {book : Encoded} (e : encoded v s ≡ book) where
  pub short-width : width book.layout ≤ 14
  short-width = subst (λ (b : Encoded). width b.layout ≤ 14) e (narrow v)

  pub few-by-length : (n : ℕ) {bytes : ℕ} →
      bytes ≡ width book.layout →
      length s ≤ (n + 1) * bytes →
      Few book.layout book.bytes n
  few-by-length n w h =
      subst (λ (b : Encoded). Few b.layout b.bytes n) e
      (few_of_width v s n (subst (λ b. length s ≤ (n + 1) * b) (w ∙ sym (ap (λ (b : Encoded). width b.layout) e)) h))

  pub all_whole : Whole book.layout book.bytes 65535
  all_whole = subst (λ (b : Encoded). Whole b.layout b.bytes 65535) e (whole v s)
