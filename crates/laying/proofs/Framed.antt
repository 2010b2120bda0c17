-- The run with the floors before its rules and the horizon after them. The rules stay, to frame it twice is to frame it once, and what is
-- listed from the framed run is what is listed from the run as it was.
use Rattle.std.specs.Prelude.{Option, None, Some}
use mathlib.Core.Path.{◌≡◌, refl, sym, ◌∙◌, ap, ap₂, subst}
use mathlib.Core.List.{List, ◌∷◌}
use mathlib.Core.Bool.{true, cond}
use Prim.Native.Nat.{ℕ, zero, suc, ◌+◌, ◌*◌, ◌≤◌}
use native.Mathlib.Omega.{arith}
use lib.ListN.{length, set}
use lib.Seq.{set-get_or}
use lib.IntN.{ℤ, pos}
use Rattle.lp.specs.declared.Constraint.{Constraint}
use Rattle.lp.specs.declared.Floors.{Floors}
use Rattle.lp.specs.declared.Point.{Point}
use Rattle.lp.specs.Program.{floor_x, floor_y}
use Rattle.lp.specs.Outcome.{every}
use Rattle.engine.specs.Entries.{entry, entries, put_entry}
use Rattle.amounts.specs.Tests.{rule_in_range, floors_in_range}
use Rattle.engine.proofs.Laid.{put_other, laid, laid-rules}
use Rattle.boundary.specs.Size.{horizon}
use Rattle.boundary.specs.Ring.{grown, corners}
use Rattle.region.specs.Listing.{Lists, taken, framed, corners_of, put_points}
use Rattle.region.proofs.Theorems.{order-names-rules}
use Rattle.region.proofs.Frames.{fit-taken, framed-length, framed-x, framed-y, framed-horizon, chosen-framed}
use Rattle.laying.specs.Laying.{Names}
use Rattle.laying.specs.Asked.{Stays}
use Rattle.laying.specs.Asked as asked

-- ---- the rules stay

put-rules : (l : List ℤ) (k : ℕ) (c : Constraint) (i n : ℕ) → i + n ≤ k → entries (put_entry l k c) i n ≡ entries l i n
put-rules l k c i zero h = refl
put-rules l k c i (suc n) h =
    ap₂ (λ (r : Constraint) (S : List Constraint). r ∷ S) (put_other l k c i (λ e. omega arith)) (put-rules l k c (suc i) n (omega arith))

pub framed-rules : (f : Floors) (e : List ℤ) (n : ℕ) → entries (framed f e n) 2 n ≡ entries e 2 n
framed-rules f e n = put-rules (laid f e) (n + 2) horizon 2 n (omega arith) ∙ laid-rules f e 2 n (omega arith)

-- ---- to put what stands there already changes nothing

put_present : (l : List ℤ) (k : ℕ) (c : Constraint) → entry l k ≡ c → put_entry l k c ≡ l
put_present l k c e = ap (put_entry l k) (sym e) ∙ ap₂ last (ap₂ middle (set-get_or l (3 * k) (pos 0)) refl) refl ∙ again
  where
    middle : List ℤ → ℤ → List ℤ
    middle m z = set m (3 * k + 1) z

    last : List ℤ → ℤ → List ℤ
    last m z = set m (3 * k + 2) z

    again : last (middle l (entry l k).b) (entry l k).c ≡ l
    again = ap (λ (m : List ℤ). last m (entry l k).c) (set-get_or l (3 * k + 1) (pos 0)) ∙ set-get_or l (3 * k + 2) (pos 0)

pub framed-twice : (f : Floors) (e : List ℤ) (n : ℕ) → 3 * (n + 3) ≤ length e → framed f (framed f e n) n ≡ framed f e n
framed-twice f e n room =
    let F = framed f e n in
    ap (λ (l : List ℤ). put_entry (put_entry l 1 (floor_y f)) (n + 2) horizon) (put_present F 0 (floor_x f) (framed-x f e n (omega arith)))
    ∙ ap (λ (l : List ℤ). put_entry l (n + 2) horizon) (put_present F 1 (floor_y f) (framed-y f e n (omega arith)))
    ∙ put_present F (n + 2) horizon (framed-horizon f e n room)

-- ---- what a listing leaves

-- all of them are listed from what was left as from the run before
module _
    (f : Floors) (e : List ℤ) (n : ℕ) (order ring : List ℕ) (out : List ℤ)
    (few : n ≤ 65533)
    (ring-room : n + 4 ≤ length ring)
    (out-room : 3 * (n + 3) ≤ length out)
    (floors : floors_in_range f ≡ true)
    (names : Names n order)
    (same : length order ≡ n) where
  fits : (l : List ℤ) →
      3 * (n + 3) ≤ length l →
      every rule_in_range (entries l 2 n) ≡ true →
      taken f l n order (length ring) (length out) ≡ true
  fits l room rules =
      fit-taken f l n order (length ring) (length out)
      (record {
        few = few;
        room = room;
        ring-room = omega (arith, ring-room, same);
        out-room = omega (arith, out-room, same);
        floors = floors;
        rules = rules;
        ordered = order-names-rules n order names.to names.from;
      })

  module _ (room : 3 * (n + 3) ≤ length e) (rules : every rule_in_range (entries e 2 n) ≡ true) where
    abbrev F : List ℤ
    F = framed f e n

    here : taken f e n order (length ring) (length out) ≡ true
    here = fits e room rules

    there : taken f F n order (length ring) (length out) ≡ true
    there = fits F (omega (arith, framed-length f e n, room)) (ap (every rule_in_range) (framed-rules f e n) ∙ rules)

    points : corners_of f F order ≡ corners_of f e order
    points = ap (λ S. corners (grown f S)) (chosen-framed f e n order (order-names-rules n order names.to names.from))

    from-framed : {r : Option ℕ} {e'' : List ℤ} {ring' : List ℕ} {out' : List ℤ} →
        Lists f F n order ring out r e'' ring' out' →
        Lists f e n order ring out r e'' ring' out'
    from-framed l =
        record {
          answer =
              l.answer
              ∙ ap (λ b. cond b (Some (length (corners_of f F order))) None) (there ∙ sym here)
              ∙ ap (λ (vs : List Point). cond (taken f e n order (length ring) (length out)) (Some (length vs)) None)
              points;
          listed =
              l.listed
              ∙ ap (λ b. cond b (put_points out 0 (corners_of f F order)) out) (there ∙ sym here)
              ∙ ap (λ (vs : List Point). cond (taken f e n order (length ring) (length out)) (put_points out 0 vs) out) points;
          run =
              l.run
              ∙ ap (λ b. cond b (framed f F n) F) there
              ∙ framed-twice f e n room
              ∙ sym (ap (λ b. cond b F e) here);
          scratch = l.scratch;
        }

  pub lists-again : {e' : List ℤ} →
      Stays f e n e' →
      {r : Option ℕ} {e'' : List ℤ} {ring' : List ℕ} {out' : List ℤ} →
      Lists f e' n order ring out r e'' ring' out' →
      Lists f e n order ring out r e'' ring' out'
  lists-again (asked.untouched q) {r} {e''} {ring'} {out'} l =
      subst (λ (m : List ℤ). Lists f m n order ring out r e'' ring' out') q l
  lists-again (asked.framed q room rules) {r} {e''} {ring'} {out'} l =
      from-framed room rules (subst (λ (m : List ℤ). Lists f m n order ring out r e'' ring' out') q l)
