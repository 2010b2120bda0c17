-- What the view and the repacker hand back tells an accepted book from a refused one: a count below 65,536, or 65,536 times the number plus
-- the record.
use mathlib.Core.Path.{◌≡◌, refl, sym, ◌∙◌, ap}
use mathlib.Core.List.{List, ◌++◌}
use mathlib.Core.Logic.{◌↔◌}
use Prim.Native.Nat.{ℕ, ◌+◌, ◌*◌, ◌≤◌, ◌<◌}
use native.Mathlib.Omega.{arith}
use lib.ListN.{length, take, drop, length-append}
use lib.IntN.{ℤ}
use Rattle.lp.specs.declared.Terms.{Terms}
use Rattle.lp.specs.Start.{restarts}
use Rattle.lp.specs.Document.{tie}
use Rattle.records.specs.Layout.{Layout, v2}
use Rattle.book.specs.Reading.{Reading, refused, accepted, Entry, read_of, rules_of}
use Rattle.repacker.specs.Repacking.{Packing, declined, packed, pack_of, repack_of, Carried}
use Rattle.repacker.specs.Promises.{repacked_of, output_of}
use Rattle.book.proofs.Causes.{refusal-number}
use Rattle.book.proofs.Bounds.{chain-count, count_room}
use Rattle.repacker.proofs.RepackLaws.{declined-number, repacked-length}
use Rattle.std.proofs.Common.{Ok}
use Rattle.planner.specs.declared.StartView.{StartView}
use Rattle.planner.specs.View.{start_view, view_of}
use Rattle.planner.proofs.Seen.{restarts-seen, restarts-within}
use Rattle.one_book.specs.Loaded.{StartWritten, RepackWritten}
use Rattle.handed.specs.Told.{told_of}
use Rattle.handed.specs.Start.{view_told}

module _ (L : Layout) (s : List ℕ) (k : ℕ) (before after : List ℤ) (n : ℕ) (h : StartWritten L s k before after n) where
  module _ (t : Terms) (es : List Entry) (e : read_of L s ≡ accepted t es) where
    abbrev view : StartView
    view = start_view t.floors (take k (rules_of es))

    told-count : n ≡ view.restarts
    told-count = h.told ∙ ap (λ (r : Reading). view_told (view_of r k)) e

    pub count-told : n ≡ restarts tie t.floors (take k (rules_of es))
    count-told = told-count ∙ restarts-seen L s k (Ok view) (record { answer = sym (ap (λ (r : Reading). view_of r k) e) }) t es e view refl

    pub count_small : n < L.records
    count_small =
        omega (
          arith,
          told-count,
          restarts-within L s k (Ok view) (record { answer = sym (ap (λ (r : Reading). view_of r k) e) }) t es e view refl,
        )

  module _ (m r : ℕ) (e : read_of L s ≡ refused m r) where
    pub refusal-told : n ≡ 65536 * m + r
    refusal-told =
        h.told
        ∙ ap (λ (y : Reading). view_told (view_of y k)) e

    pub refusal_large : 65536 ≤ n
    refusal_large = omega (arith, refusal-told, some m (refusal-number L s e))
      where
        some : (m : ℕ) → (m ≡ 0 → ⊥) → 1 ≤ m
        some m z = omega (arith, z)

-- ---- the repacker

module _ (L : Layout) (s before after : List ℕ) (n : ℕ) (h : RepackWritten L s before after n) where
  told_packing : {x : Packing} → repack_of L s (length before) ≡ x → n ≡ told_of (repacked_of x)
  told_packing e = h.told ∙ ap (λ (x : Packing). told_of (repacked_of x)) e

  -- a count is that of the repacked form's bytes, and they stand at the start of the buffer
  module _ (bs : List ℕ) (e : repack_of L s (length before) ≡ packed bs) where
    pub bytes-told : n ≡ length bs
    bytes-told = told_packing e

    pub bytes-written : after ≡ bs ++ drop (length bs) before
    bytes-written = h.output ∙ ap (λ (x : Packing). output_of x before) e

    pub bytes-within : n ≤ length after
    bytes-within = omega (arith, bytes-told, ap (λ (l : List ℕ). length l) bytes-written, length-append bs (drop (length bs) before))

    -- no book that version 2 can hold has 65,536 bytes
    pub bytes_small : Carried L v2 → n < 65536
    unfolding pack_of
    bytes_small c = few (read_of L s) refl
      where
        few : (x : Reading) → read_of L s ≡ x → n < 65536
        few (refused k i) r =
            absurd
            (let q : declined k i ≡ packed bs = sym (ap (λ (x : Reading). pack_of v2 x (length before)) r) ∙ e in
            let m : ◌≡◌ {A = ℕ} 0 1 = cc in
            let z : ⊥ = omega arith in
            z)
        few (accepted t es) r =
            omega (
              arith,
              bytes-told,
              repacked-length L s (length before) r e,
              chain-count L s r,
              count_room L s r,
              c.records,
            )

  -- a refusal is its number and record, and the buffer is as it was
  module _ (k i : ℕ) (e : repack_of L s (length before) ≡ declined k i) where
    pub declined-told : n ≡ 65536 * k + i
    declined-told = told_packing e

    pub declined_large : 65536 ≤ n
    declined_large = omega (arith, declined-told, declined-number L s (length before) e)

    pub declined-untouched : after ≡ before
    declined-untouched = h.output ∙ ap (λ (x : Packing). output_of x before) e

  -- so that a caller can tell the two: below 65,536 exactly if the repacked form was written
  pub told-apart : Carried L v2 → (n < 65536) ↔ ((bs : List ℕ) × (repack_of L s (length before) ≡ packed bs))
  told-apart c = ((λ small. by (repack_of L s (length before)) refl small), (λ x. bytes_small x.0 x.1 c))
    where
      by : (x : Packing) →
          repack_of L s (length before) ≡ x →
          n < 65536 →
          (bs : List ℕ) × (repack_of L s (length before) ≡ packed bs)
      by (packed bs) e small = (bs, e)
      by (declined k i) e small = absurd (let z : ⊥ = omega (arith, declined_large k i e) in z)
