-- Indices put in order without repeats: sorted, and one kept of those of which none comes before the other. That the points of the kept
-- ones are the points in order is proved in proofs/Meaning.antt.
use Rattle.std.specs.Prelude.{◌≡◌, List, [], ◌∷◌, ◌++◌, Bool, true, false, cond, ℕ, zero, suc, ◌+◌, ◌-◌, ◌≤◌, ◌<◌, ltb, length, drop, get_or, set}
use Rattle.sorting.specs.Sorting.{sort_of}

-- n indices from i on
abbrev pub indices : ℕ → ℕ → List ℕ
indices i zero = []
indices i (suc n) = i ∷ indices (suc i) n

module _ (comes : ℕ → ℕ → Bool) where
  -- of a sorted list, those that come after the last one kept
  abbrev pub kept_after : ℕ → List ℕ → List ℕ
  kept_after p [] = []
  kept_after p (q ∷ l) = elim (comes p q) [ true ↦ q ∷ kept_after q l | false ↦ kept_after p l ]

  abbrev pub kept : List ℕ → List ℕ
  kept [] = []
  kept (p ∷ l) = p ∷ kept_after p l

  -- in the front of the run; what is behind stays as it was
  abbrev pub kept_run : List ℕ → List ℕ
  kept_run l = kept l ++ drop (length (kept l)) l

  -- the indices of n points, in order
  abbrev pub order_of : ℕ → List ℕ
  order_of n = sort_of comes (indices 0 n)

  pub record Kept (before : List ℕ) (r : ℕ) (after : List ℕ) : Type 0 where
    pub count : r ≡ length (kept before)
    pub run : after ≡ kept_run before

  pub record Arranged (before : List ℕ) (r : ℕ) (after : List ℕ) : Type 0 where
    pub count : r ≡ cond (ltb 4098 (length before)) 0 (length (kept (order_of (length before))))
    pub run : after ≡ cond (ltb 4098 (length before)) before (kept_run (order_of (length before)))

  -- one step: the index at place i, where k are kept
  pub record Stepped (i k : ℕ) (before : List ℕ) (r : ℕ) (after : List ℕ) : Type 0 where
    pub count : r ≡ cond (comes (get_or before (k - 1) 0) (get_or before i 0)) (k + 1) k
    pub run : after ≡ cond (comes (get_or before (k - 1) 0) (get_or before i 0)) (set before k (get_or before i 0)) before

pub record Stepping (run : List ℕ) (i k : ℕ) : Type 0 where
  pub some : 1 ≤ k
  pub front : k ≤ i
  pub within : i < length run
