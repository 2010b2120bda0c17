-- The promise of a region's corners, where what they come to is handed back as one number: how many they are, or 65,536 times a refusal's
-- number plus its record. The record of 11 is 0, and the count of the corners that did not fit is added; any other refusal's count is 0.
use Rattle.std.specs.Prelude.{◌≡◌, List, ℕ, ◌+◌, Result, Ok, Err, length}
use Rattle.outline.specs.declared.Unlisted.{Unlisted}
use Rattle.outline.specs.Outline.{outline_of, outlined_of, output_of}
use Rattle.handed.specs.Told.{told_of}

abbrev pub corners_told : Result ℕ Unlisted → ℕ
corners_told (Ok count) = count
corners_told (Err x) = told_of (Err x.refusal) + x.count

pub record CornersWritten (s before after : List ℕ) (count : ℕ) : Type 0 where
  pub output : after ≡ output_of (outline_of s (length before)) before
  pub told : count ≡ corners_told (outlined_of (outline_of s (length before)))
