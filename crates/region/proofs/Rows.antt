-- Rows of edges in a run of indices: what a step of an insertion makes of a row, place by place. There is no geometry in it.
use mathlib.Core.Path.{◌≡◌, refl, ◌∙◌, ap, subst}
use mathlib.Core.List.{List, [], ◌∷◌, ◌++◌}
use mathlib.Core.Bool.{Bool, true, false}
use Prim.Native.Nat.{ℕ, zero, suc, ◌+◌, ◌-◌, ◌≤◌, ◌<◌}
use native.Mathlib.Omega.{arith}
use lib.ListN.{length, get_or}
use lib.IntN.{ℤ}
use Rattle.lp.specs.declared.Constraint.{Constraint}
use Rattle.lp.specs.Range.{SmallConstraint}
use Rattle.engine.specs.Entries.{entry}
use Rattle.boundary.specs.Ring.{at_place}
use Rattle.engine.specs.Rings.{Meeting}
use Rattle.engine.proofs.Named.{edges-same, edges-last}
use Rattle.region.specs.Row.{edge, edges, rotated, sought_row}
use Rattle.region.specs.Asked.{At, Pair, Place, Ring, Turned}

-- ---- what a ring gives at a place of its run

module _ {e : List ℤ} {run : List ℕ} {lo n : ℕ} (r : Ring e run lo n) where
  there : (p : ℕ) → lo ≤ p → p < lo + n → get_or run p 0 < r.count
  there p a b = subst (λ (q : ℕ). get_or run q 0 < r.count) same (r.named (p - lo) (omega arith))
    where
      same : lo + (p - lo) ≡ p
      same = omega arith

  pub ring-at : (p : ℕ) → lo ≤ p → p < lo + n → At e run p
  ring-at p a b = record { place = omega (arith, r.fits); room = omega (arith, there p a b, r.entries.room) }

  pub ring-small : (p : ℕ) → lo ≤ p → p < lo + n → SmallConstraint (edge e run p)
  ring-small p a b = r.entries.small (get_or run p 0) (there p a b)

  pub ring-meeting :
      {h : Constraint} →
      SmallConstraint h →
      (p q : ℕ) →
      lo ≤ p →
      p < lo + n →
      lo ≤ q →
      q < lo + n →
      Meeting h (edge e run p) (edge e run q)
  ring-meeting s p q a b c d = record { h-small = s; p-small = ring-small p a b; q-small = ring-small q c d }

  -- two places, one after the other
  pub ring-pair : {h : Constraint} → SmallConstraint h → (p : ℕ) → lo ≤ p → p + 1 < lo + n → Pair e run h p (p + 1)
  ring-pair s p a b =
      record {
        first = ring-at p a (omega arith);
        second = ring-at (p + 1) (omega arith) b;
        meeting = ring-meeting s p (p + 1) a (omega arith) (omega arith) b;
      }

  pub ring-place :
      {D h : Constraint} →
      SmallConstraint D →
      SmallConstraint h →
      (p : ℕ) →
      lo ≤ p →
      p + 1 < lo + n →
      Place e run D h p (p + 1)
  ring-place d s p a b =
      record {
        first = ring-at p a (omega arith);
        second = ring-at (p + 1) (omega arith) b;
        size_small = d;
        meeting = ring-meeting s p (p + 1) a (omega arith) (omega arith) b;
      }

-- ---- rows that hold the same

module _ (e : List ℤ) where
  pub edges-length : (run : List ℕ) (p n : ℕ) → length (edges e run p n) ≡ n
  edges-length run p zero = refl
  edges-length run p (suc n) = ap suc (edges-length run (suc p) n)

  -- ---- one turn

  pub edges-turned :
      (before after : List ℕ) (lo m at : ℕ) →
      Turned before lo (suc m) at after →
      edges e after at (suc m) ≡ rotated (edges e before lo (suc m))
  edges-turned before after lo m at t =
      edges-last (entry e) after at m
      ∙ λ i. edges-same (entry e) after before at (suc lo) m others i ++ (entry e (t.last m (omega arith) i) ∷ [])
    where
      more : (k : ℕ) → lo + (k + 1) ≡ suc lo + k
      more k = omega arith

      others : (k : ℕ) → k < m → get_or after (at + k) 0 ≡ get_or before (suc lo + k) 0
      others k b = t.others k (omega arith) ∙ ap (λ (r : ℕ). get_or before r 0) (more k)

  -- ---- the place of h

  pub sought-two :
      (D h : Constraint) (c : ℕ) (run : List ℕ) (p m : ℕ) →
      {b : Bool} →
      at_place D h (edge e run p) (edge e run (suc p)) ≡ b →
      sought_row D h (suc c) (edges e run p (suc (suc m)))
      ≡ elim b [
        | true ↦ edges e run p (suc (suc m))
        | false ↦ sought_row D h c (rotated (edges e run p (suc (suc m))))
      ]
  sought-two D h c run p m t =
      ap
      (λ b. elim b [
        | true ↦ edges e run p (suc (suc m))
        | false ↦ sought_row D h c (rotated (edges e run p (suc (suc m))))
      ])
      t
