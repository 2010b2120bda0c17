-- The laws of a book's list of corners: which refusal comes and with which count, that 11 comes last and only for a list that does not
-- fit, that an impossible book fits into no bytes, how many corners there are at most, and that the rules' order plays no part.
use mathlib.Core.Path.{◌≡◌, refl, sym, ◌∙◌, ap}
use mathlib.Core.List.{List, []}
use mathlib.Core.Bool.{Bool, true, false, cond, true≢false}
use Prim.Native.Nat.{ℕ, ◌+◌, ◌*◌, ◌≤◌, ◌<◌}
use native.Mathlib.Omega.{arith}
use borrow.Author.Tests.{lt-ltb, le-ltb, ltb-true}
use lib.Dec.{ltb}
use lib.ListN.{length, take, drop, length-map}
use lib.Seq.{take_at, drop_at}
use Rattle.lp.specs.declared.Point.{Point}
use Rattle.lp.specs.declared.Terms.{Terms}
use Rattle.lp.specs.Program.{system}
use Rattle.lp.specs.Textbook.{Infeasible}
use Rattle.lp.specs.Document.{AlikeInRules}
use Rattle.lp.specs.Corners.{corners_of}
use Rattle.corner_theory.proofs.Theorems.{corners-order-free, no_corner_exactly}
use Rattle.corner_theory.proofs.Ring.{corners-at-most}
use Rattle.records.specs.Layout.{v2}
use Rattle.records.specs.Planned.{planned_rule}
use Rattle.book.specs.Reading.{Reading, refused, accepted, Entry, read_of, rules_of}
use Rattle.book.proofs.Causes.{refusal_applies, cause-number}
use Rattle.listing.specs.Listing.{points_bytes}
use Rattle.listing.proofs.Written.{length-points}
use Rattle.outline.specs.Outline.{Outline, declined, listed, fitted, outline_by, outline_of, output_of}

module _ (s : List ℕ) (room : ℕ) where
  -- the book's own refusals come first, with the count 0
  pub refused-first : {n r : ℕ} → read_of v2 s ≡ refused n r → outline_of s room ≡ declined n r 0
  refused-first e = ap (λ x. outline_by x room) e

  module _ {t : Terms} {es : List Entry} (e : read_of v2 s ≡ accepted t es) where
    abbrev corners : List Point
    corners = corners_of t.floors (rules_of es)

    abbrev decided : Bool → Outline
    decided b = cond b (declined 11 0 (length corners)) (listed corners)

    -- 11 where the list does not fit, with record 0 and the count
    pub crowded : room < 24 * length corners → outline_of s room ≡ declined 11 0 (length corners)
    crowded h = ap (λ x. outline_by x room) e ∙ ap decided (lt-ltb room (24 * length corners) h)

    -- else the list
    pub fitting : 24 * length corners ≤ room → outline_of s room ≡ listed corners
    fitting h = ap (λ x. outline_by x room) e ∙ ap decided (le-ltb room (24 * length corners) h)

    -- never more than n + 2
    pub few-corners : length corners ≤ length es + 2
    few-corners =
        let n : length (rules_of es) ≡ length es = length-map es (λ x. planned_rule x.rule) in
        let m = corners-at-most t.floors (rules_of es) in
        omega arith

    -- an impossible book has none, and fits into whatever there is
    pub impossible-none : Infeasible (system t.floors (rules_of es)) → outline_of s room ≡ listed []
    impossible-none none =
        let z : corners ≡ [] = (no_corner_exactly t.floors (rules_of es)).1 none in
        ap (λ x. outline_by x room) e
        ∙ ap (λ l. fitted l room) z
        ∙ ap (λ b. cond b (declined 11 0 0) (listed [])) (le-ltb room 0 (omega arith))

    -- .. and only such a book
    pub none-impossible : outline_of s room ≡ listed [] → Infeasible (system t.floors (rules_of es))
    none-impossible o = (no_corner_exactly t.floors (rules_of es)).0 (go (ltb room (24 * length corners)) (sym (ap
        (λ x. outline_by x room) e) ∙ o))
      where
        points : Outline → List Point
        points (declined n r k) = []
        points (listed l) = l

        is_listed : Outline → Bool
        is_listed (declined n r k) = false
        is_listed (listed l) = true

        go : (b : Bool) → cond b (declined 11 0 (length corners)) (listed corners) ≡ listed [] → corners ≡ []
        go true q = absurd (let w : true ≡ false = sym (ap is_listed q) in true≢false w)
        go false q = ap points q

  -- 11 comes last: only of an accepted book whose list does not fit, and with its count
  pub record Crowded (k : ℕ) : Type 0 where
    pub terms : Terms
    pub entries : List Entry
    pub reads : read_of v2 s ≡ accepted terms entries
    pub count : k ≡ length (corners_of terms.floors (rules_of entries))
    pub short : room < 24 * length (corners_of terms.floors (rules_of entries))

  pub eleven-last : {r k : ℕ} → outline_of s room ≡ declined 11 r k → Crowded k
  eleven-last {r} {k} o = go (read_of v2 s) refl o
    where
      number : Outline → ℕ
      number (declined n r k) = n
      number (listed l) = 0

      counted : Outline → ℕ
      counted (declined n r k) = k
      counted (listed l) = 0

      go : (x : Reading) → read_of v2 s ≡ x → outline_by x room ≡ declined 11 r k → Crowded k
      go (refused n i) e q = absurd ((cause-number (refusal_applies v2 s e)).1 (ap number q))
      go (accepted t es) e q = pick (ltb room (24 * length (corners_of t.floors (rules_of es)))) refl q
        where
          pick :
              (b : Bool) →
              ltb room (24 * length (corners_of t.floors (rules_of es))) ≡ b →
              cond b (declined 11 0 (length (corners_of t.floors (rules_of es)))) (listed (corners_of t.floors (rules_of es)))
              ≡ declined 11 r k →
              Crowded k
          pick true h q =
              record {
                terms = t;
                entries = es;
                reads = e;
                count = sym (ap counted q);
                short = ltb-true room (24 * length (corners_of t.floors (rules_of es))) h;
              }
          pick false h q = absurd (let z : ◌≡◌ {A = ℕ} 0 11 = ap number q in let y : ⊥ = omega arith in y)

-- books with the same floors whose rules are alike have the same list, whatever their objectives
pub order-free : (s s' : List ℕ) (room : ℕ) (t t' : Terms) (es es' : List Entry) →
    read_of v2 s ≡ accepted t es →
    read_of v2 s' ≡ accepted t' es' →
    t.floors ≡ t'.floors →
    AlikeInRules (rules_of es) (rules_of es') →
    outline_of s room ≡ outline_of s' room
order-free s s' room t t' es es' e e' f alike =
    ap (λ x. outline_by x room) e
    ∙ ap (λ l. fitted l room)
    (corners-order-free t.floors (rules_of es) (rules_of es') alike ∙ ap (λ g. corners_of g (rules_of es')) f)
    ∙ sym (ap (λ x. outline_by x room) e')

-- ---- the output

-- what is filled is the list, and the bytes after it are as they were
module _ (corners : List Point) (out : List ℕ) where
  pub front-listed : take (24 * length corners) (output_of (listed corners) out) ≡ points_bytes corners
  front-listed = take_at (points_bytes corners) (drop (24 * length corners) out) (24 * length corners) (length-points corners)

  pub rest-kept : drop (24 * length corners) (output_of (listed corners) out) ≡ drop (24 * length corners) out
  rest-kept = drop_at (points_bytes corners) (drop (24 * length corners) out) (24 * length corners) (length-points corners)

-- a refusal leaves every byte as it was
pub declined-kept : (n r k : ℕ) (out : List ℕ) → output_of (declined n r k) out ≡ out
declined-kept n r k out = refl
