-- The promise of `list_corners`: the different ones of the first n points, in order, are written if they fit.
use Rattle.std.specs.Prelude.{◌≡◌, List, ◌++◌, Result, Ok, Err, Bool, cond, ◌&&◌, ℕ, ◌*◌, leb, length, drop, ℤ}
use Rattle.answers.specs.Refusal.{refusal}
use Rattle.sorting.specs.Keys.{comes_at}
use Rattle.arranging.specs.Arranging.{kept, kept_run, order_of}
use Rattle.listing.specs.Listing.{written}
use Rattle.outline.specs.declared.Unlisted.{Unlisted}

-- how many different points the first n are
abbrev pub distinct : List ℤ → ℕ → ℕ
distinct keys n = length (kept (comes_at keys) (order_of (comes_at keys) n))

-- their indices in order, one of each point in front
abbrev pub arranged : List ℤ → ℕ → List ℕ
arranged keys n = kept_run (comes_at keys) (order_of (comes_at keys) n)

-- they are written if they fit
abbrev pub fit : List ℤ → ℕ → List ℕ → Bool
fit keys n out = leb (24 * distinct keys n) (length out)

abbrev pub full : ℕ → Result ℕ Unlisted
full k = Ok k

abbrev pub crowded : ℕ → Result ℕ Unlisted
crowded k = Err (record { refusal = refusal 11 0; count = k })

abbrev pub answer_of : List ℤ → ℕ → List ℕ → Result ℕ Unlisted
answer_of keys n out = cond (fit keys n out) (full (distinct keys n)) (crowded (distinct keys n))

abbrev pub output_of : List ℤ → ℕ → List ℕ → List ℕ
output_of keys n out = cond (fit keys n out) (written keys (arranged keys n) (distinct keys n) out) out

-- of a run that is n long
pub record Finished (keys : List ℤ) (n : ℕ) (out : List ℕ) (r : Result ℕ Unlisted) (run' after : List ℕ) : Type 0 where
  pub answer : r ≡ answer_of keys n out
  pub indices : run' ≡ arranged keys n
  pub output : after ≡ output_of keys n out

-- so many points are put in order
abbrev pub sortable : ℕ → List ℕ → Bool
sortable n run = leb n 4098 && leb n (length run)

pub record Finishes (keys : List ℤ) (n : ℕ) (run out : List ℕ) (r : Result ℕ Unlisted) (run' after : List ℕ) : Type 0 where
  pub answer : r ≡ cond (sortable n run) (answer_of keys n out) (crowded 0)
  pub indices : run' ≡ cond (sortable n run) (arranged keys n ++ drop n run) run
  pub output : after ≡ cond (sortable n run) (output_of keys n out) out
