-- From what reading a book left in the lent runs to the weights of its best pair.
use Rattle.std.specs.Prelude.{Ok}
use mathlib.Core.Path.{◌≡◌, refl, sym, ◌∙◌, ap, subst}
use mathlib.Core.List.{List, [], ◌∷◌}
use Prim.Native.Nat.{ℕ, ◌+◌}
use native.Mathlib.Omega.{arith}
use lib.IntN.{ℤ, pos}
use Rattle.lp.specs.declared.Constraint.{Constraint}
use Rattle.lp.specs.declared.Functional.{Functional}
use Rattle.lp.specs.declared.Floors.{Floors}
use Rattle.lp.specs.declared.Point.{Point}
use Rattle.lp.specs.Range.{SmallConstraint, SmallSystem}
use Rattle.records.specs.Layout.{v2}
use Rattle.book.specs.declared.Head.{Head}
use Rattle.book.specs.Reading.{Reading, refused, accepted, read_of}
use Rattle.book.specs.Promises.{head_of, ReadInto}
use Rattle.slip.specs.declared.Weights.{Weights}
use Rattle.slip.proofs.Judging.{entries-small}
use Rattle.slip.proofs.Read.{same_head, chain-laid, chain-records, chain-rules}
use Rattle.slips.specs.declared.pass.Held.{Held}
use Rattle.slips.specs.Pass.{normal_of, side, turned_of, pass_of, held_of}
use Rattle.slips.specs.Runs.{entries, indices, SmallHeld, Passing}
use Rattle.slips.specs.Weights.{weights_of, best_weights, Weighing}
use Rattle.slips.specs.Writing.{Lent, BestOf}
use Rattle.slips.proofs.Sizes.{turned-small, floors-held-small, passing_flooring, normal-small}

pub pass_small : (g : Constraint) (v : Point) (is : List ℕ) (cs : List Constraint) →
    SmallSystem cs →
    (h : Held) →
    SmallHeld h →
    SmallHeld (pass_of g v is cs h)
pass_small g v [] cs s h k = k
pass_small g v (i ∷ is) [] s h k = k
pass_small g v (i ∷ is) (c ∷ cs) s h k =
    pass_small g v is cs s.1 (turned_of g v (side (pos (i + 1)) c) h) (turned-small g v (side (pos (i + 1)) c) h s.0 k)

pub weighing_of : {f : Functional} {v : Point} {floors : Floors} {records : List ℕ} {l : List ℤ} {n : ℕ} →
    Passing f v floors records l n →
    {g : Constraint} →
    g ≡ normal_of f →
    {h : Held} →
    h ≡ held_of f v floors (indices records 0 n) (entries l 0 n) →
    Weighing g h
weighing_of {f} {v} {floors} {records} {l} {n} p eg eh =
    record {
      objective = subst SmallConstraint (sym eg) (normal-small p.objective);
      held = subst SmallHeld (sym eh)
          (pass_small (normal_of f) v (indices records 0 n) (entries l 0 n) (entries-small p.entries) _
          (floors-held-small (passing_flooring p refl)));
    }

module _
    (s records : List ℕ) (rules : List ℤ) (h : Head) (records' : List ℕ) (rules' : List ℤ)
    (read : ReadInto v2 s records rules (Ok h) records' rules')
    {v : Point}
    (lent : Lent s records rules v) where
  pub passing_of : Passing h.terms.objective v h.terms.floors records' rules' h.n
  passing_of = go (read_of v2 s) refl
    where
      go : (r : Reading) → read_of v2 s ≡ r → Passing h.terms.objective v h.terms.floors records' rules' h.n
      go (accepted t es) e =
          let c = chain-laid s records rules h records' rules' read lent.room t es e in
          record {
            objective = c.terms.objective-small;
            pair = lent.pair;
            floors-small = c.terms.floors-small;
            names = c.names;
            entries = c.entries;
          }
      go (refused n i) e =
          absurd (let clash = read.answer ∙ ap head_of e in let z : ◌≡◌ {A = ℕ} 0 1 = cc in let b : ⊥ = omega arith in b)

  pub best_of : {g : Constraint} →
      g ≡ normal_of h.terms.objective →
      {held : Held} →
      held ≡ held_of h.terms.objective v h.terms.floors (indices records' 0 h.n) (entries rules' 0 h.n) →
      {w : Weights} →
      w ≡ weights_of g held →
      BestOf s v w
  best_of eg eh ew =
      record {
        best = λ t es e.
            ew ∙ (λ i. weights_of (eg i) (eh i))
            ∙ (λ i. best_weights (ap (λ (x : Head). x.terms) (same_head s records rules h records' rules' read lent.room t es e) i) v (chain-records s records rules h records' rules' read lent.room t es e i)
            (chain-rules s records rules h records' rules' read lent.room t es e i));
      }
