-- The corners of a book of version 2, into an output with room for so many bytes (request 110): the book's own refusals first, with the
-- count 0; then 11, if the list does not fit, with record 0 and the corners' count; else the list. A refusal leaves the output as it was,
-- and so does the list the bytes after it. The objective plays no part.
use Rattle.std.specs.Prelude.{◌≡◌, List, ◌++◌, Result, Ok, Err, cond, ℕ, ◌*◌, ltb, length, drop}
use Rattle.lp.specs.declared.Point.{Point}
use Rattle.lp.specs.Corners.{corners_of}
use Rattle.answers.specs.Refusal.{refusal}
use Rattle.records.specs.Layout.{v2}
use Rattle.book.specs.Reading.{Reading, refused, accepted, read_of, rules_of}
use Rattle.listing.specs.Listing.{points_bytes}
use Rattle.outline.specs.declared.Unlisted.{Unlisted}

-- a number, a record and a count; or the corners
pub data Outline : Type 0 where
  declined : ℕ → ℕ → ℕ → Outline
  listed : List Point → Outline

-- the list, if it has room
abbrev pub fitted : List Point → ℕ → Outline
fitted corners room = cond (ltb room (24 * length corners)) (declined 11 0 (length corners)) (listed corners)

abbrev pub outline_by : Reading → ℕ → Outline
outline_by (refused n r) room = declined n r 0
outline_by (accepted t es) room = fitted (corners_of t.floors (rules_of es)) room

abbrev pub outline_of : List ℕ → ℕ → Outline
outline_of s room = outline_by (read_of v2 s) room

-- what is handed back, and what the output then holds
abbrev pub outlined_of : Outline → Result ℕ Unlisted
outlined_of (declined n r k) = Err (record { refusal = refusal n r; count = k })
outlined_of (listed corners) = Ok (length corners)

abbrev pub output_of : Outline → List ℕ → List ℕ
output_of (declined n r k) out = out
output_of (listed corners) out = points_bytes corners ++ drop (24 * length corners) out

-- the promise of listing the corners of a book
pub record Outlines (s out : List ℕ) (r : Result ℕ Unlisted) (after : List ℕ) : Type 0 where
  pub answer : r ≡ outlined_of (outline_of s (length out))
  pub output : after ≡ output_of (outline_of s (length out)) out
