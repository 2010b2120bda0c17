-- What a region's corners come to fits into one number: a book has 4,097 corners at most, and a book's own refusal has none.
use Rattle.std.specs.Prelude.{Result, Ok, Err}
use mathlib.Core.Path.{◌≡◌, refl, sym, ◌∙◌, ap, subst}
use mathlib.Core.List.{List}
use mathlib.Core.Bool.{Bool, true, false, cond}
use Prim.Native.Nat.{ℕ, ◌+◌, ◌*◌, ◌^◌, ◌<◌}
use native.Mathlib.Omega.{arith}
use lib.Dec.{ltb}
use lib.ListN.{length}
use Rattle.lp.specs.Corners.{corners_of}
use Rattle.records.specs.Layout.{v2}
use Rattle.book.specs.Reading.{Reading, refused, accepted, read_of, rules_of}
use Rattle.book.proofs.Bounds.{chain-few}
use Rattle.outline.specs.declared.Unlisted.{Unlisted}
use Rattle.outline.specs.Outline.{Outline, declined, listed, outline_by, outline_of, outlined_of}
use Rattle.outline.proofs.Laws.{few-corners}
use Rattle.handed.specs.Told.{told_of}

-- what is told of a refusal, and how many corners there are
abbrev pub told_in : Result ℕ Unlisted → ℕ
told_in (Ok k) = 0
told_in (Err u) = told_of (Err u.refusal)

abbrev pub counted_in : Result ℕ Unlisted → ℕ
counted_in (Ok k) = k
counted_in (Err u) = u.count

module _ (s : List ℕ) (room : ℕ) where
  -- what is told of a refusal is a machine number, and its sum with the count is one too
  sum_fits : (m : ℕ) →
      m < 2 ^ 64 →
      m ≡ told_in (outlined_of (outline_of s room)) →
      m + counted_in (outlined_of (outline_of s room)) < 2 ^ 64
  sum_fits m h = go (read_of v2 s) refl
    where
      fitted : (k : ℕ) →
          k < 65536 →
          (b : Bool) (x y : Outline) →
          counted_in (outlined_of x) ≡ k →
          counted_in (outlined_of y) ≡ k →
          told_in (outlined_of x) ≡ 720896 →
          told_in (outlined_of y) ≡ 0 →
          m ≡ told_in (outlined_of (cond b x y)) →
          m + counted_in (outlined_of (cond b x y)) < 2 ^ 64
      fitted k few true x y a b c d e = omega (arith, few, a, c, e)
      fitted k few false x y a b c d e = omega (arith, few, b, d, e)

      go : (r : Reading) →
          read_of v2 s ≡ r →
          m ≡ told_in (outlined_of (outline_by r room)) →
          m + counted_in (outlined_of (outline_by r room)) < 2 ^ 64
      go (refused n i) e q = omega (arith, h)
      go (accepted t es) e q =
          let few = few-corners s room e in
          let short = chain-few v2 s e in
          fitted (length (corners_of t.floors (rules_of es))) (omega (arith, few, short))
          (ltb room (24 * length (corners_of t.floors (rules_of es)))) (declined 11 0 (length (corners_of t.floors (rules_of es))))
          (listed (corners_of t.floors (rules_of es))) refl refl refl refl q

  pub corners-fit : (r : Result ℕ Unlisted) →
      r ≡ outlined_of (outline_of s room) →
      {m : ℕ} →
      m < 2 ^ 64 →
      m ≡ told_in r →
      m + counted_in r < 2 ^ 64
  corners-fit r e {m} h t =
      subst (λ (x : Result ℕ Unlisted). m + counted_in x < 2 ^ 64) (sym e) (sum_fits m h (t ∙ ap told_in e))
