-- A list that was written is within the output.
use Rattle.std.specs.Prelude.{Result, Ok, Err}
use mathlib.Core.Path.{◌≡◌, refl, sym, ◌∙◌}
use mathlib.Core.List.{List}
use mathlib.Core.Bool.{Bool, true, false, cond}
use Prim.Native.Nat.{ℕ, ◌*◌, ◌≤◌}
use native.Mathlib.Omega.{arith}
use borrow.Author.Tests.{ltb-false}
use lib.Dec.{ltb}
use lib.ListN.{length}
use Rattle.lp.specs.Corners.{corners_of}
use Rattle.records.specs.Layout.{v2}
use Rattle.book.specs.Reading.{Reading, refused, accepted, read_of, rules_of}
use Rattle.outline.specs.declared.Unlisted.{Unlisted}
use Rattle.outline.specs.Outline.{declined, listed, outline_by, outlined_of, Outlines}

ok_apart : {x : Unlisted} {k : ℕ} → ◌≡◌ {A = Result ℕ Unlisted} (Err x) (Ok k) → ⊥
ok_apart e = cc

same_count : {k n : ℕ} → ◌≡◌ {A = Result ℕ Unlisted} (Ok k) (Ok n) → k ≡ n
same_count e = cc

pub list-within : (s out : List ℕ) (r : Result ℕ Unlisted) (after : List ℕ) →
    Outlines s out r after →
    {k : ℕ} →
    r ≡ Ok k →
    24 * k ≤ length out
list-within s out r after h {k} written = go (read_of v2 s) refl (sym written ∙ h.answer)
  where
    go : (x : Reading) → read_of v2 s ≡ x → Ok k ≡ outlined_of (outline_by x (length out)) → 24 * k ≤ length out
    go (refused n i) e q = absurd (ok_apart (sym q))
    go (accepted t es) e q = pick (ltb (length out) (24 * length (corners_of t.floors (rules_of es)))) refl q
      where
        pick :
            (b : Bool) →
            ltb (length out) (24 * length (corners_of t.floors (rules_of es))) ≡ b →
            Ok k
            ≡ outlined_of
            (cond b (declined 11 0 (length (corners_of t.floors (rules_of es)))) (listed (corners_of t.floors (rules_of es)))) →
            24 * k ≤ length out
        pick true f q = absurd (ok_apart (sym q))
        pick false f q = omega (arith, same_count q, ltb-false (length out) (24 * length (corners_of t.floors (rules_of es))) f)
