-- The points that are left of a run of them, written if they fit.
use Rattle.std.specs.Prelude.{Result, Err}
use mathlib.Core.Path.{◌≡◌, sym, ◌∙◌, ap, subst}
use mathlib.Core.List.{List, ◌++◌}
use mathlib.Core.Bool.{Bool, true, false, cond, ◌&&◌}
use Prim.Native.Nat.{ℕ, ◌*◌, ◌≤◌}
use native.Mathlib.Omega.{arith}
use borrow.Author.Tests.{le-leb, le-ltb}
use lib.Dec.{leb}
use lib.ListN.{length, drop, length-append}
use lib.IntN.{ℤ}
use Rattle.answers.specs.declared.Refusal.{Refusal}
use Rattle.answers.specs.Refusal.{refusal}
use Rattle.sorting.specs.Keys.{comes_at}
use Rattle.arranging.specs.Arranging.{kept, kept_run, order_of, Arranged}
use Rattle.listing.specs.Listing.{Lists, fits, written}
use Rattle.outline.specs.declared.Unlisted.{Unlisted}
use Rattle.outlining.specs.Finishing.{distinct, arranged, fit, full, crowded, answer_of, output_of, Finished, sortable, Finishes}

module _
    (keys : List ℤ) (first out : List ℕ) {k : ℕ} {run after : List ℕ} {t : Bool}
    (few : length first ≤ 4098)
    (a : Arranged (comes_at keys) first k run)
    (l : Lists keys run k out t after) where
  abbrev n : ℕ
  n = length first

  abbrev sorted : List ℕ
  sorted = order_of (comes_at keys) n

  counted : k ≡ distinct keys n
  counted = a.count ∙ ap (λ b. cond b 0 (distinct keys n)) (le-ltb 4098 n few)

  ran : run ≡ kept_run (comes_at keys) sorted
  ran = a.run ∙ ap (λ b. cond b first (kept_run (comes_at keys) sorted)) (le-ltb 4098 n few)

  enough : k ≤ length run
  enough =
      omega
      (arith, counted, ap length ran, length-append (kept (comes_at keys) sorted) (drop (length (kept (comes_at keys) sorted)) sorted))

  fits-is : fits run k out ≡ fit keys n out
  fits-is = ap (λ b. b && leb (24 * k) (length out)) (le-leb k (length run) enough) ∙ ap (λ (m : ℕ). leb (24 * m) (length out)) counted

  output : after ≡ output_of keys n out
  output = l.output ∙ (λ i. cond (fits-is i) (written keys (ran i) (counted i) out) out)

  decided : {b : Bool} → t ≡ b → b ≡ fit keys n out
  decided e = sym e ∙ l.told ∙ fits-is

  pub finishes : t ≡ true → Finished keys n out (full k) run after
  finishes e =
      record {
        answer = ap full counted ∙ ap (λ b. cond b (full (distinct keys n)) (crowded (distinct keys n))) (decided e);
        indices = ran;
        output = output;
      }

  pub turned-back : t ≡ false → {f : Refusal} →
      f ≡ refusal 11 0 →
      Finished keys n out (Err (record { refusal = f; count = k })) run after
  turned-back e ef =
      record {
        answer =
            (λ i. Err (record { refusal = ef i; count = counted i }))
            ∙ ap (λ b. cond b (full (distinct keys n)) (crowded (distinct keys n))) (decided e);
        indices = ran;
        output = output;
      }

-- ---- of the first places of a run

module _ (keys : List ℤ) (n : ℕ) (run out : List ℕ) {t : Bool} (told : t ≡ sortable n run) where
  pub finishes-front : t ≡ true →
      {m : ℕ} →
      m ≡ n →
      {r : Result ℕ Unlisted} {front all after : List ℕ} →
      all ≡ front ++ drop n run →
      Finished keys m out r front after →
      Finishes keys n run out r all after
  finishes-front so {m} em {r} {front} {all} {after} ea w =
      let x = subst (λ (i : ℕ). Finished keys i out r front after) em w in
      record {
        answer = x.answer ∙ sym (ap (λ b. cond b (answer_of keys n out) (crowded 0)) yes);
        indices = ea ∙ ap (λ (l : List ℕ). l ++ drop n run) x.indices ∙ sym (ap (λ b. cond b (arranged keys n ++ drop n run) run) yes);
        output = x.output ∙ sym (ap (λ b. cond b (output_of keys n out) out) yes);
      }
    where
      yes : sortable n run ≡ true
      yes = sym told ∙ so

  pub finishes-none : t ≡ false → {f : Refusal} →
      f ≡ refusal 11 0 →
      Finishes keys n run out (Err (record { refusal = f; count = 0 })) run out
  finishes-none not ef =
      record {
        answer = (λ i. Err (record { refusal = ef i; count = 0 })) ∙ sym (ap (λ b. cond b (answer_of keys n out) (crowded 0)) no_more);
        indices = sym (ap (λ b. cond b (arranged keys n ++ drop n run) run) no_more);
        output = sym (ap (λ b. cond b (output_of keys n out) out) no_more);
      }
    where
      no_more : sortable n run ≡ false
      no_more = sym told ∙ not
