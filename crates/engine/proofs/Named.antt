-- Rows of edges in a run of indices, place by place, whatever constraints the indices name: rows that hold the same, and what a constraint
-- leaves of them. There is no geometry in it.
use mathlib.Core.Path.{◌≡◌, refl, sym, ◌∙◌, ap}
use mathlib.Core.List.{List, [], ◌∷◌, ◌++◌}
use mathlib.Core.Bool.{Bool, true, false}
use Prim.Native.Nat.{ℕ, zero, suc, ◌+◌, ◌≤◌, ◌<◌}
use native.Mathlib.Omega.{arith}
use lib.ListN.{length, get_or, set}
use lib.Seq.{get_or-set_same, get_or-set_other}
use Rattle.lp.specs.declared.Constraint.{Constraint}
use Rattle.boundary.specs.Ring.{keeps_at, joined}
use Rattle.engine.specs.Row.{edge_by, edges_by, front_row, back_row}

-- ---- rows that hold the same

module _ (name : ℕ → Constraint) where
  pub edges_at : (run : List ℕ) {p q m n : ℕ} → p ≡ q → m ≡ n → edges_by name run p m ≡ edges_by name run q n
  edges_at run a b = λ i. edges_by name run (a i) (b i)

  pub edges-same :
      (after before : List ℕ) (p q m : ℕ) →
      ((k : ℕ) → k < m → get_or after (p + k) 0 ≡ get_or before (q + k) 0) →
      edges_by name after p m ≡ edges_by name before q m
  edges-same after before p q zero h = refl
  edges-same after before p q (suc m) h =
      λ i. name (first i) ∷ edges-same after before (suc p) (suc q) m rest i
    where
      none : (r : ℕ) → r + 0 ≡ r
      none r = omega arith

      first : get_or after p 0 ≡ get_or before q 0
      first = sym (ap (λ (r : ℕ). get_or after r 0) (none p)) ∙ h 0 (omega arith) ∙ ap (λ (r : ℕ). get_or before r 0) (none q)

      more : (r k : ℕ) → r + suc k ≡ suc r + k
      more r k = omega arith

      rest : (k : ℕ) → k < m → get_or after (suc p + k) 0 ≡ get_or before (suc q + k) 0
      rest k b =
          sym (ap (λ (r : ℕ). get_or after r 0) (more p k)) ∙ h (suc k) (omega arith) ∙ ap (λ (r : ℕ). get_or before r 0) (more q k)

  pub edges-last : (run : List ℕ) (p m : ℕ) → edges_by name run p (suc m) ≡ edges_by name run p m ++ (edge_by name run (p + m) ∷ [])
  edges-last run p zero = ap (λ (r : ℕ). edge_by name run r ∷ []) none
    where
      none : p ≡ p + 0
      none = omega arith
  edges-last run p (suc m) =
      ap (λ l. edge_by name run p ∷ l)
      (edges-last run (suc p) m ∙ ap (λ (r : ℕ). edges_by name run (suc p) m ++ (edge_by name run r ∷ [])) more)
    where
      more : suc p + m ≡ p + suc m
      more = omega arith

  -- ---- what h drops at the front

  pub front-two :
      (h : Constraint) (run : List ℕ) (p m : ℕ) →
      {b : Bool} →
      keeps_at h (edge_by name run p) (edge_by name run (suc p)) ≡ b →
      front_row h (edges_by name run p (suc (suc m)))
      ≡ elim b [ true ↦ edges_by name run p (suc (suc m)) | false ↦ front_row h (edges_by name run (suc p) (suc m)) ]
  front-two h run p m t =
      ap (λ b. elim b [ true ↦ edges_by name run p (suc (suc m)) | false ↦ front_row h (edges_by name run (suc p) (suc m)) ]) t

  -- ---- what h drops at the back

  pub back_drops :
      (h : Constraint) (run : List ℕ) (p m q : ℕ) →
      q ≡ p + m →
      keeps_at h (edge_by name run q) (edge_by name run (suc q)) ≡ false →
      back_row h (edges_by name run p (suc (suc m))) ≡ back_row h (edges_by name run p (suc m))
  back_drops h run p zero q at t =
      ap (λ b. joined (edge_by name run p) b (edge_by name run (suc p) ∷ []))
      (ap (λ (r : ℕ). keeps_at h (edge_by name run r) (edge_by name run (suc r))) here ∙ t)
    where
      here : p ≡ q
      here = omega arith
  back_drops h run p (suc m) q at t =
      ap (joined (edge_by name run p) (keeps_at h (edge_by name run p) (edge_by name run (suc p))))
      (back_drops h run (suc p) m q (omega arith) t)

  pub back-keeps :
      (h : Constraint) (run : List ℕ) (p m q : ℕ) →
      q ≡ p + m →
      keeps_at h (edge_by name run q) (edge_by name run (suc q)) ≡ true →
      back_row h (edges_by name run p (suc (suc m))) ≡ edges_by name run p (suc (suc m))
  back-keeps h run p zero q at t =
      ap (λ b. joined (edge_by name run p) b (edge_by name run (suc p) ∷ []))
      (ap (λ (r : ℕ). keeps_at h (edge_by name run r) (edge_by name run (suc r))) here ∙ t)
    where
      here : p ≡ q
      here = omega arith
  back-keeps h run p (suc m) q at t =
      ap (joined (edge_by name run p) (keeps_at h (edge_by name run p) (edge_by name run (suc p))))
      (back-keeps h run (suc p) m q (omega arith) t)
      ∙ go (keeps_at h (edge_by name run p) (edge_by name run (suc p)))
    where
      go : (b : Bool) → joined (edge_by name run p) b (edges_by name run (suc p) (suc (suc m))) ≡ edges_by name run p (suc (suc (suc m)))
      go true = refl
      go false = refl

  -- ---- h put before a row

  pub edges-put :
      (run : List ℕ) (h p k : ℕ) →
      suc p + k ≤ length run →
      edges_by name (set run p h) p (suc k) ≡ name h ∷ edges_by name run (suc p) k
  edges-put run h p k room =
      λ i. name (get_or-set_same run p h 0 (omega arith) i) ∷ edges-same (set run p h) run (suc p) (suc p) k others i
    where
      others : (j : ℕ) → j < k → get_or (set run p h) (suc p + j) 0 ≡ get_or run (suc p + j) 0
      others j b = get_or-set_other run p (suc p + j) h 0 (λ c. omega arith)
