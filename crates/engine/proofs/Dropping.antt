-- The edges that a constraint drops at both ends of a row, whatever the row's indices name: one record for each loop, with its start, its
-- step and its end.
use mathlib.Core.Path.{◌≡◌, refl, sym, ◌∙◌, ap, subst}
use mathlib.Core.List.{List}
use mathlib.Core.Bool.{Bool, true, false}
use Prim.Native.Nat.{ℕ, suc, ◌+◌, ◌-◌, ◌≤◌, ◌<◌}
use native.Mathlib.Omega.{arith}
use native.Mathlib.Numerals.{add-one}
use Rattle.lp.specs.declared.Constraint.{Constraint}
use Rattle.boundary.specs.Ring.{keeps_at}
use Rattle.engine.specs.Row.{edge_by, edges_by, front_row, back_row}
use Rattle.engine.specs.Rings.{Dropped, Left}
use Rattle.engine.proofs.Named.{edges_at, front-two, back_drops, back-keeps}

-- ---- at the front

pub record Front (name : ℕ → Constraint) (run : List ℕ) (lo n : ℕ) (h : Constraint) (i : ℕ) : Type 0 where
  pub inside : i < n
  pub rest : front_row h (edges_by name run (lo + i) (n - i)) ≡ front_row h (edges_by name run lo n)

module _ {name : ℕ → Constraint} {run : List ℕ} {lo n : ℕ} {h : Constraint} where
  pub front-start : 0 < n → Front name run lo n h 0
  front-start some = record { inside = some; rest = ap (front_row h) (edges_at name run none all) }
    where
      none : lo + 0 ≡ lo
      none = omega arith

      all : n - 0 ≡ n
      all = omega arith

  module _ {i : ℕ} (t : Front name run lo n h i) where
    looked-front :
        i + 1 < n →
        {b : Bool} →
        b ≡ keeps_at h (edge_by name run (lo + i)) (edge_by name run (lo + i + 1)) →
        elim b [ true ↦ edges_by name run (lo + i) (n - i) | false ↦ front_row h (edges_by name run (lo + (i + 1)) (n - (i + 1))) ]
        ≡ front_row h (edges_by name run lo n)
    looked-front less {b} eb =
        (λ j. elim b [
          | true ↦ edges_by name run (lo + i) (two j)
          | false ↦ front_row h (edges_by name run (next j) (one j))
        ])
        ∙ sym (front-two name h run (lo + i) (n - i - 2)
        (sym (eb ∙ ap (λ (j : ℕ). keeps_at h (edge_by name run (lo + i)) (edge_by name run j)) (add-one (lo + i)))))
        ∙ ap (λ (m : ℕ). front_row h (edges_by name run (lo + i) m)) (sym two)
        ∙ t.rest
      where
        two : n - i ≡ suc (suc (n - i - 2))
        two = omega arith

        one : n - (i + 1) ≡ suc (n - i - 2)
        one = omega arith

        next : lo + (i + 1) ≡ suc (lo + i)
        next = omega arith

    pub front-stop : i + 1 < n → keeps_at h (edge_by name run (lo + i)) (edge_by name run (lo + i + 1)) ≡ true → Dropped name run lo n h i
    front-stop b k = record { some = t.inside; row = looked-front b (sym k) }

    pub front-step :
        i + 1 < n →
        keeps_at h (edge_by name run (lo + i)) (edge_by name run (lo + i + 1)) ≡ false →
        Front name run lo n h (i + 1)
    front-step b k = record { inside = b; rest = looked-front b (sym k) }

    pub front-end : n ≤ i + 1 → Dropped name run lo n h i
    front-end b =
        record {
          some = t.inside;
          row =
              subst (λ (m : ℕ). edges_by name run (lo + i) m ≡ front_row h (edges_by name run (lo + i) m)) (sym one) refl ∙ t.rest;
        }
      where
        one : n - i ≡ suc 0
        one = omega (arith, t.inside)

-- ---- at the back

pub record Back (name : ℕ → Constraint) (run : List ℕ) (lo n : ℕ) (h : Constraint) (k : ℕ) : Type 0 where
  pub inside : k ≤ n
  pub some : 0 < k
  pub rest : back_row h (edges_by name run lo k) ≡ back_row h (edges_by name run lo n)

module _ {name : ℕ → Constraint} {run : List ℕ} {lo n : ℕ} {h : Constraint} where
  pub back_start : 0 < n → Back name run lo n h n
  back_start some = record { inside = omega arith; some = some; rest = refl }

  module _ {k : ℕ} (t : Back name run lo n h k) where
    at_back :
        {b : Bool} →
        b ≡ keeps_at h (edge_by name run (lo + k - 2)) (edge_by name run (lo + k - 2 + 1)) →
        keeps_at h (edge_by name run (lo + k - 2)) (edge_by name run (suc (lo + k - 2))) ≡ b
    at_back eb = sym (eb ∙ ap (λ (j : ℕ). keeps_at h (edge_by name run (lo + k - 2)) (edge_by name run j)) (add-one (lo + k - 2)))

    pub back-stop : 1 < k → keeps_at h (edge_by name run (lo + k - 2)) (edge_by name run (lo + k - 2 + 1)) ≡ true → Left name run lo n h k
    back-stop b g =
        record {
          some = t.some;
          fewer = t.inside;
          row =
              subst (λ (j : ℕ). edges_by name run lo j ≡ back_row h (edges_by name run lo j)) (sym two)
              (sym (back-keeps name h run lo (k - 2) (lo + k - 2) (omega arith) (at_back (sym g))))
              ∙ t.rest;
        }
      where
        two : k ≡ suc (suc (k - 2))
        two = omega arith

    pub back_step :
        1 < k →
        keeps_at h (edge_by name run (lo + k - 2)) (edge_by name run (lo + k - 2 + 1)) ≡ false →
        Back name run lo n h (k - 1)
    back_step b g =
        record {
          inside = omega (arith, t.inside);
          some = omega arith;
          rest =
              ap (λ (j : ℕ). back_row h (edges_by name run lo j)) one
              ∙ sym (back_drops name h run lo (k - 2) (lo + k - 2) (omega arith) (at_back (sym g)))
              ∙ ap (λ (j : ℕ). back_row h (edges_by name run lo j)) (sym two)
              ∙ t.rest;
        }
      where
        two : k ≡ suc (suc (k - 2))
        two = omega arith

        one : k - 1 ≡ suc (k - 2)
        one = omega arith

    pub back_end : k ≤ 1 → Left name run lo n h k
    back_end b =
        record {
          some = t.some;
          fewer = t.inside;
          row = subst (λ (j : ℕ). edges_by name run lo j ≡ back_row h (edges_by name run lo j)) (sym one) refl ∙ t.rest;
        }
      where
        one : k ≡ suc 0
        one = omega (arith, t.some)
