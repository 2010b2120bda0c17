-- What the corners of an accepted book come to.
use Rattle.std.specs.Prelude.{Option, Result, Err}
use mathlib.Core.Path.{◌≡◌, refl, sym, ◌∙◌, ap, subst}
use mathlib.Core.List.{List, ◌∷◌, map, Memᴰ}
use mathlib.Core.Bool.{Bool, true, false, cond, ◌&&◌}
use Prim.Native.Nat.{ℕ, zero, suc, ◌+◌, ◌*◌, ◌≤◌}
use native.Mathlib.Omega.{arith}
use borrow.Author.Tests.{le-leb, leb-true, leb-false}
use lib.ListN.{length}
use lib.IntN.{ℤ}
use Rattle.lp.specs.declared.Constraint.{Constraint}
use Rattle.lp.specs.declared.Floors.{Floors}
use Rattle.lp.specs.Corners.{corners_of}
use Rattle.answers.specs.declared.Refusal.{Refusal}
use Rattle.records.specs.Layout.{v2}
use Rattle.book.specs.declared.Head.{Head}
use Rattle.book.specs.Reading.{refused, read_of, rules_of}
use Rattle.book.proofs.Bounds.{chain-count}
use Rattle.engine.specs.Entries.{entries}
use Rattle.boundary.specs.Ring.{grown, corners}
use Rattle.sorting.specs.Keys.{point_at}
use Rattle.arranging.specs.Arranging.{indices}
use Rattle.listing.specs.Listing.{written}
use Rattle.region.specs.Listing as listing
use Rattle.region.proofs.Theorems.{places, rules-enter, only-rules}
use Rattle.laying.specs.Laying.{Names, within, Lays}
use Rattle.laying.proofs.Layouts.{names, all_listed, all_read, few-corners, count_of, small-member}
use Rattle.outline.specs.declared.Unlisted.{Unlisted}
use Rattle.outline.specs.Outline.{outlined_of, Outlines}
use Rattle.outline.specs.Outline as outline
use Rattle.outline.proofs.Laws.{refused-first}
use Rattle.outline.proofs.Assembled.{front-points, front-count, outlines-crowded, outlines-listed}
use Rattle.outlining.specs.Finishing.{distinct, arranged, fit, full, crowded, answer_of, output_of, sortable, Finishes}
use Rattle.batching.specs.Asked.{Roomy}
use Rattle.batching.proofs.Books.{Ready}
use Rattle.batching.proofs.Runs.{counted, clear, few-rules, in-range}

-- the book is refused
pub outlines-refused : (s out : List ℕ) {f : Refusal} →
    read_of v2 s ≡ refused f.number f.at →
    Outlines s out (Err (record { refusal = f; count = 0 })) out
outlines-refused s out e =
    record {
      answer = sym (ap outlined_of (refused-first s (length out) e));
      output = sym (ap (λ x. outline.output_of x out) (refused-first s (length out) e));
    }

indices-places : (i n : ℕ) → indices i n ≡ places i n
indices-places i zero = refl
indices-places i (suc n) = ap (λ (l : List ℕ). i ∷ l) (indices-places (suc i) n)

module _ (s : List ℕ) (h : Head) (l : List ℤ) (x : Ready s h l) where
  module _
      {records : List ℕ} {run : List ℤ} {ring : List ℕ} {keys : List ℤ} (room : Roomy s records run ring keys)
      (order : List ℕ) (eo : length order ≡ h.n) (el : length l ≡ length run)
      {r : Option ℕ} {l' : List ℤ} {order' ring' : List ℕ} {keys' : List ℤ}
      (y : Lays h.terms.floors l order ring keys r l' order' ring' keys')
      {n : ℕ} (en : n ≡ count_of r)
      (out : List ℕ) {o : Result ℕ Unlisted} {ring'' after : List ℕ}
      (w : Finishes keys' n ring' out o ring'' after) where
    abbrev f : Floors
    f = h.terms.floors

    abbrev rules : List Constraint
    rules = entries l 2 h.n

    so : within f l (length order) (length ring) (length keys) ≡ true
    so = in-range s h l x room order eo el

    points : n ≡ length (listing.corners_of f l order')
    points = en ∙ ap count_of (all_listed f l order ring keys y so)

    few : n ≤ h.n + 2
    few = omega (arith, points, few-corners f l order ring keys y so, eo)

    sorted : sortable n ring' ≡ true
    sorted =
        λ i. le-leb n 4098 (omega (arith, few, few-rules s h l x)) i
        && le-leb n (length ring')
        (omega (arith, few, y.listed.scratch, counted s h l x, chain-count v2 s x.reads, room.ring-room (clear s h l x))) i

    -- ---- the rules that entered, in their order, and the corners of their ring

    abbrev entered : List Constraint
    entered = listing.chosen l order'

    named : Names (length order) order'
    named = names f l order ring keys y so

    to : (c : Constraint) → Memᴰ c rules → Memᴰ c entered
    to =
        subst (λ (m : ℕ). (c : Constraint) → Memᴰ c (entries l 2 m) → Memᴰ c entered) eo
        (rules-enter (length order) order' named.to named.from f l)

    from : (c : Constraint) → Memᴰ c entered → Memᴰ c rules
    from =
        subst (λ (m : ℕ). (c : Constraint) → Memᴰ c entered → Memᴰ c (entries l 2 m)) eo
        (only-rules (length order) order' named.to named.from f l)

    laid : map (point_at keys') (indices 0 n) ≡ corners (grown f entered)
    laid =
        ap (λ (m : ℕ). map (point_at keys') (indices 0 m)) points
        ∙ ap (map (point_at keys')) (indices-places 0 (length (listing.corners_of f l order')))
        ∙ all_read f l order ring keys y so

    -- ---- the list

    same : corners_of f rules ≡ corners_of x.terms.floors (rules_of x.chain)
    same = λ i. corners_of (x.head i).terms.floors (x.rules i)

    count : distinct keys' n ≡ length (corners_of x.terms.floors (rules_of x.chain))
    count =
        front-count f rules x.laid.floors-small (small-member rules x.laid.rules-small) entered to from keys' n laid refl
        ∙ ap length same

    abbrev k : ℕ
    k = distinct keys' n

    answered : o ≡ answer_of keys' n out
    answered = w.answer ∙ ap (λ b. cond b (answer_of keys' n out) (crowded 0)) sorted

    written_out : after ≡ output_of keys' n out
    written_out = w.output ∙ ap (λ b. cond b (output_of keys' n out) out) sorted

    pub outlines : Outlines s out o after
    outlines = go (fit keys' n out) refl
      where
        go : (b : Bool) → fit keys' n out ≡ b → Outlines s out o after
        go true e =
            subst (λ (q : Result ℕ Unlisted). Outlines s out q after) (sym (answered ∙ ap (λ b. cond b (full k) (crowded k)) e))
            (outlines-listed s out x.terms x.chain x.reads keys' (arranged keys' n) count
            (front-points f rules x.laid.floors-small (small-member rules x.laid.rules-small) entered to from
            keys' n laid refl refl
            ∙ same)
            (leb-true (24 * k) (length out) e)
            (written_out ∙ ap (λ b. cond b (written keys' (arranged keys' n) k out) out) e))
        go false e =
            subst (λ (q : Result ℕ Unlisted). Outlines s out q after) (sym (answered ∙ ap (λ b. cond b (full k) (crowded k)) e))
            (subst (λ (z : List ℕ). Outlines s out (crowded k) z)
            (sym (written_out ∙ ap (λ b. cond b (written keys' (arranged keys' n) k out) out) e))
            (outlines-crowded s out x.terms x.chain x.reads count (leb-false (24 * k) (length out) e)))
