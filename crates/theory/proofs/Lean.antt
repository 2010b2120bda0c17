-- Nothing is spare in the certificates that the model makes (document 02, #112): of three entries with a weight every two have lines that
-- cross, and where they cross they are both kept; of two that are parallel each crosses the line of the third; one alone needs no other.
use mathlib.Core.Path.{◌≡◌, sym, ◌∙◌, ap, subst}
use mathlib.Core.List.Memᴰ
use mathlib.Core.List.{List, ◌++◌, Memᴰ}
use mathlib.Core.Bool.{Bool, true, false}
use mathlib.Core.Logic.{◌⊎◌, inl, inr}
use Prim.Native.Nat.{ℕ, zero, suc}
use lib.IntN.{ℤ, pos, negsuc}
use lib.Signed.{clash_ℤ}
use Rattle.ints.specs.Order.{◌≤ᶻ◌, ◌<ᶻ◌}
use Rattle.ints.proofs.Order.{Sign, minus, nought, plus, sign, nn_zero, pos_nat}
use Rattle.lp.specs.declared.Constraint.{Constraint}
use Rattle.lp.specs.declared.Point.{Point}
use Rattle.lp.specs.Program.{point, Keeps}
use Rattle.lp.specs.Outcome.{det, meet}
use Rattle.lp.specs.Certificate.{Weighted, weighted, named, GivenUp, NothingSpare}
use Rattle.model.specs.Scan.{facing}
use Rattle.model.specs.Step.{alone, line_weight, conflict}
use Rattle.theory.proofs.Line.{off-line, meet-on-first, meet-on-second}

-- an entry that is named has the index that it was named by, and a weight other than 0
weighted-index : (e : ℕ) (w : ℤ) (y : Weighted) → Memᴰ y (weighted e w) → y.entry ≡ e
weighted-index e (pos zero) y i = absurd (Memᴰ.not-nil i)
weighted-index e (pos (suc n)) y i = ap (λ (x : Weighted). x.entry) (Memᴰ.eq_of_singleton i)
weighted-index e (negsuc n) y i = ap (λ (x : Weighted). x.entry) (Memᴰ.eq_of_singleton i)

weighted-used : (e : ℕ) (w : ℤ) (y : Weighted) → Memᴰ y (weighted e w) → w ≡ pos 0 → ⊥
weighted-used e w y i z = Memᴰ.not-nil (subst (λ u. Memᴰ y (weighted e u)) z i)

-- where two lines cross, both constraints are kept
record Both (r s : Constraint) : Type 0 where
  pair : Point
  proper : pos 0 <ᶻ pair.d
  keeps-first : Keeps r pair
  keeps-second : Keeps s pair

crossing : (r s : Constraint) → pos 0 <ᶻ det r s → Both r s
crossing r s h =
    record { pair = meet r s; proper = h; keeps-first = nn_zero (meet-on-first r s); keeps-second = nn_zero (meet-on-second r s) }

module _ (look : ℕ → Constraint) (side : Bool) (n : ℕ) (h : Constraint) (j : ℕ) (k : Constraint) (i : ℕ) (m : Constraint)
    (at-h : look n ≡ h) (at-k : look j ≡ k) (at-m : look i ≡ m)
    (crosses : pos 0 <ᶻ det k (facing side h)) (away : pos 0 ≤ᶻ det (facing side h) m) (weight : pos 0 <ᶻ line_weight side k m) where
  abbrev l : Constraint
  l = facing side h

  abbrev entries : List Weighted
  entries = named (conflict side n h j k i m)

  -- the three pairs of lines
  without-h : Both k m
  without-h = go side weight
    where
      go : (side : Bool) → pos 0 <ᶻ line_weight side k m → Both k m
      go true w =
          let b = crossing m k w in
          record { pair = b.pair; proper = b.proper; keeps-first = b.keeps-second; keeps-second = b.keeps-first }
      go false w = crossing k m w

  without-m : Both k h
  without-m =
      record {
        pair = meet k l;
        proper = crosses;
        keeps-first = nn_zero (meet-on-first k l);
        keeps-second = nn_zero (off-line side h (meet k l) (meet-on-second k l));
      }

  without-k : pos 0 <ᶻ det l m → Both h m
  without-k w =
      record {
        pair = meet l m;
        proper = w;
        keeps-first = nn_zero (off-line side h (meet l m) (meet-on-first l m));
        keeps-second = nn_zero (meet-on-second l m);
      }

  -- which of the three a named entry is
  data Which (y : Weighted) : Type 0 where
    is-h : y.entry ≡ n → Which y
    is-k : y.entry ≡ j → pos 0 <ᶻ det l m → Which y
    is_m : y.entry ≡ i → Which y

  positive : (det l m ≡ pos 0 → ⊥) → pos 0 <ᶻ det l m
  positive other = go (sign (det l m))
    where
      go : Sign (det l m) → pos 0 <ᶻ det l m
      go (minus z) = clash_ℤ z away
      go (nought z) = absurd (other z)
      go (plus z) = z

  which : (y : Weighted) → Memᴰ y entries → Which y
  which y p = first (Memᴰ.append_cases (weighted n (line_weight side k m)) p)
    where
      second : Memᴰ y (weighted j (det l m)) ⊎ Memᴰ y (weighted i (det k l)) → Which y
      second (inl q) = is-k (weighted-index j (det l m) y q) (positive (weighted-used j (det l m) y q))
      second (inr q) = is_m (weighted-index i (det k l) y q)

      first :
          Memᴰ y (weighted n (line_weight side k m)) ⊎ Memᴰ y (weighted j (det l m) ++ weighted i (det k l)) → Which y
      first (inl q) = is-h (weighted-index n (line_weight side k m) y q)
      first (inr q) = second (Memᴰ.append_cases (weighted j (det l m)) q)

  -- a pair that keeps an entry, by the index that names it
  kept : {r : Constraint} {e : ℕ} (v : Point) (y : Weighted) → y.entry ≡ e → look e ≡ r → Keeps r v → Keeps (look y.entry) v
  kept v y q at keeps = subst (λ s. Keeps s v) (sym (ap look q ∙ at)) keeps

  lean-at : (x : Weighted) → Which x → GivenUp look entries x
  lean-at x (is-h p) =
      record { pair = without-h.pair; proper = without-h.proper; others-kept = λ y q other. go y (which y q) other }
    where
      go : (y : Weighted) → Which y → (y.entry ≡ x.entry → ⊥) → Keeps (look y.entry) without-h.pair
      go y (is-h q) other = absurd (other (q ∙ sym p))
      go y (is-k q w) other = kept without-h.pair y q at-k without-h.keeps-first
      go y (is_m q) other = kept without-h.pair y q at-m without-h.keeps-second
  lean-at x (is-k p w) =
      record { pair = (without-k w).pair; proper = (without-k w).proper; others-kept = λ y q other. go y (which y q) other }
    where
      go : (y : Weighted) → Which y → (y.entry ≡ x.entry → ⊥) → Keeps (look y.entry) (without-k w).pair
      go y (is-h q) other = kept (without-k w).pair y q at-h (without-k w).keeps-first
      go y (is-k q z) other = absurd (other (q ∙ sym p))
      go y (is_m q) other = kept (without-k w).pair y q at-m (without-k w).keeps-second
  lean-at x (is_m p) =
      record { pair = without-m.pair; proper = without-m.proper; others-kept = λ y q other. go y (which y q) other }
    where
      go : (y : Weighted) → Which y → (y.entry ≡ x.entry → ⊥) → Keeps (look y.entry) without-m.pair
      go y (is-h q) other = kept without-m.pair y q at-h without-m.keeps-second
      go y (is-k q w) other = kept without-m.pair y q at-k without-m.keeps-first
      go y (is_m q) other = absurd (other (q ∙ sym p))

  pub conflict-lean : NothingSpare look entries
  conflict-lean x p = lean-at x (which x p)

-- one entry alone: the rest is empty and allows every pair
pub alone-lean : (look : ℕ → Constraint) (n : ℕ) → NothingSpare look (named (alone n))
alone-lean look n x p =
    record {
      pair = point (pos 0) (pos 0) (pos 1);
      proper = pos_nat 0;
      others-kept =
          λ y q other. absurd (other (ap (λ (w : Weighted). w.entry) (Memᴰ.eq_of_singleton q ∙ sym (Memᴰ.eq_of_singleton p))));
    }
