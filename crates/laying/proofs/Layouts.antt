-- The promise of `lay_sampled` where corners are listed; and what is listed where all numbers are within their ranges.
use Rattle.std.specs.Prelude.{Option, None, Some}
use mathlib.Core.Path.{◌≡◌, refl, sym, ◌∙◌, ap}
use mathlib.Core.List.Memᴰ
use mathlib.Core.List.{List, [], ◌∷◌, map, Memᴰ}
use mathlib.Core.Bool.{Bool, true, false, cond, ◌&&◌, true≢false}
use Prim.Native.Nat.{ℕ, ◌+◌, ◌*◌, ◌≤◌}
use native.Mathlib.Omega.{arith}
use borrow.Author.Tests.{leb-true, le-leb}
use lib.Dec.{leb}
use lib.ListN.{length}
use lib.IntN.{ℤ}
use Rattle.lp.specs.declared.Floors.{Floors}
use Rattle.lp.specs.declared.Constraint.{Constraint}
use Rattle.lp.specs.Outcome.{every}
use Rattle.lp.specs.Range.{SmallConstraint, SmallSystem}
use Rattle.theory.proofs.Lists.{for-members}
use Rattle.engine.specs.Entries.{entries}
use Rattle.amounts.specs.Tests.{rule_in_range, floors_in_range}
use Rattle.amounts.proofs.Tests.{both, rule-small}
use Rattle.region.specs.Listing.{Lists, taken, framed, corners_of, put_points}
use Rattle.region.proofs.Theorems.{places, order-names-rules, listed-at-most}
use Rattle.region.proofs.Frames.{fit, fit-taken}
use Rattle.region.proofs.Points.{read_point, corners-read}
use Rattle.laying.specs.Laying.{Names, roomy, ready, within, Lays}
use Rattle.laying.specs.Asked.{Ordered}
use Rattle.laying.proofs.Framed.{framed-rules, lists-again}

-- corners are listed
abbrev inside : Option ℕ → Bool
inside None = false
inside (Some k) = true

-- ---- what the test says

pub record Ready (f : Floors) (n ring corners : ℕ) : Type 0 where
  pub few : n ≤ 65533
  pub ring-room : n + 4 ≤ ring
  pub corners-room : 3 * (n + 3) ≤ corners
  pub floors : floors_in_range f ≡ true

module _ (f : Floors) (n ring corners : ℕ) where
  pub ready-said : ready f n ring corners ≡ true → Ready f n ring corners
  ready-said e =
      let t = both (roomy n ring corners) (floors_in_range f) e in
      let s = both (leb n 65533) (leb (n + 4) ring && leb (3 * (n + 3)) corners) t.0 in
      let r = both (leb (n + 4) ring) (leb (3 * (n + 3)) corners) s.1 in
      record {
        few = leb-true n 65533 s.0;
        ring-room = leb-true (n + 4) ring r.0;
        corners-room = leb-true (3 * (n + 3)) corners r.1;
        floors = t.1;
      }

  pub is-ready : Ready f n ring corners → ready f n ring corners ≡ true
  is-ready h =
      λ i. (le-leb n 65533 h.few i
      && (le-leb (n + 4) ring h.ring-room i && le-leb (3 * (n + 3)) corners h.corners-room i))
      && h.floors i

-- .. and that of all numbers
pub record Within (f : Floors) (e : List ℤ) (n ring corners : ℕ) : Type 0 where
  pub order : Ready f n ring corners
  pub room : 3 * (n + 3) ≤ length e
  pub rules : every rule_in_range (entries e 2 n) ≡ true

module _ (f : Floors) (e : List ℤ) (n ring corners : ℕ) where
  pub within-said : within f e n ring corners ≡ true → Within f e n ring corners
  within-said q =
      let t = both (ready f n ring corners) (leb (3 * (n + 3)) (length e) && every rule_in_range (entries e 2 n)) q in
      let s = both (leb (3 * (n + 3)) (length e)) (every rule_in_range (entries e 2 n)) t.1 in
      record { order = ready-said f n ring corners t.0; room = leb-true (3 * (n + 3)) (length e) s.0; rules = s.1 }

  pub is_within : Within f e n ring corners → within f e n ring corners ≡ true
  is_within h =
      λ i. is-ready f n ring corners h.order i && (le-leb (3 * (n + 3)) (length e) h.room i && h.rules i)

-- ---- the promise

module _
    (f : Floors) (e : List ℤ) (order ring : List ℕ) (corners : List ℤ)
    {t : Bool} (told : t ≡ ready f (length order) (length ring) (length corners)) (so : t ≡ true) where
  x : Ready f (length order) (length ring) (length corners)
  x = ready-said f (length order) (length ring) (length corners) (sym told ∙ so)

  pub lays-listed : {e' : List ℤ} {order' : List ℕ} →
      Ordered f e (length order) e' order' →
      length order' ≡ length order →
      {r : Option ℕ} {e'' : List ℤ} {ring' : List ℕ} {corners' : List ℤ} →
      Lists f e' (length order) order' ring corners r e'' ring' corners' →
      Lays f e order ring corners r e'' order' ring' corners'
  lays-listed {order' = order'} o same l =
      record {
        listed =
            lists-again f e (length order) order' ring corners x.few x.ring-room x.corners-room x.floors o.named same
            o.run l;
        as_long = same;
        named = λ r. o.named;
        left = λ r. absurd (true≢false (sym so ∙ told ∙ r));
      }

-- ---- what a caller finds

module _
    (f : Floors) (e : List ℤ) (order ring : List ℕ) (corners : List ℤ)
    {r : Option ℕ} {e' : List ℤ} {order' ring' : List ℕ} {corners' : List ℤ}
    (h : Lays f e order ring corners r e' order' ring' corners') where
  abbrev n : ℕ
  n = length order

  -- corners are listed only if all is within its range
  pub listed-within : {k : ℕ} → r ≡ Some k → within f e n (length ring) (length corners) ≡ true
  listed-within {k} q = go (taken f e n order' (length ring) (length corners)) refl (sym h.listed.answer ∙ q)
    where
      go : (b : Bool) →
          taken f e n order' (length ring) (length corners) ≡ b →
          cond b (Some (length (corners_of f e order'))) None ≡ Some k →
          within f e n (length ring) (length corners) ≡ true
      go true t z =
          let x = fit f e n order' (length ring) (length corners) t in
          is_within f e n (length ring) (length corners)
          (record {
            order =
                record {
                  few = x.few;
                  ring-room = omega (arith, x.ring-room, h.as_long);
                  corners-room = omega (arith, x.out-room, h.as_long);
                  floors = x.floors;
                };
            room = x.room;
            rules = x.rules;
          })
      go false t z = absurd (true≢false (sym (ap inside z)))

  module _ (w : within f e n (length ring) (length corners) ≡ true) where
    inner : Within f e n (length ring) (length corners)
    inner = within-said f e n (length ring) (length corners) w

    pub names : Names n order'
    names = h.named (is-ready f n (length ring) (length corners) inner.order)

    is-taken : taken f e n order' (length ring) (length corners) ≡ true
    is-taken =
        fit-taken f e n order' (length ring) (length corners)
        (record {
          few = inner.order.few;
          room = inner.room;
          ring-room = omega (arith, inner.order.ring-room, h.as_long);
          out-room = omega (arith, inner.order.corners-room, h.as_long);
          floors = inner.order.floors;
          rules = inner.rules;
          ordered = order-names-rules n order' names.to names.from;
        })

    pub all_listed : r ≡ Some (length (corners_of f e order'))
    all_listed = h.listed.answer ∙ ap (λ b. cond b (Some (length (corners_of f e order'))) None) is-taken

    pub all-put : corners' ≡ put_points corners 0 (corners_of f e order')
    all-put = h.listed.listed ∙ ap (λ b. cond b (put_points corners 0 (corners_of f e order')) corners) is-taken

    pub run_framed : e' ≡ framed f e n
    run_framed = h.listed.run ∙ ap (λ b. cond b (framed f e n) e) is-taken

    pub rules_stay : entries e' 2 n ≡ entries e 2 n
    rules_stay = ap (λ (l : List ℤ). entries l 2 n) run_framed ∙ framed-rules f e n

    pub few-corners : length (corners_of f e order') ≤ n + 2
    few-corners = omega (arith, listed-at-most f e order', h.as_long)

    -- the points that were put there are read off again
    pub all_read : map (read_point corners') (places 0 (length (corners_of f e order'))) ≡ corners_of f e order'
    all_read =
        ap (λ (l : List ℤ). map (read_point l) (places 0 (length (corners_of f e order')))) all-put
        ∙ corners-read f e order' corners (omega (arith, inner.order.corners-room, h.as_long))

-- as many points as the listing says, and 0 where there is none
abbrev pub count_of : Option ℕ → ℕ
count_of None = 0
count_of (Some k) = k

-- ---- systems within their ranges

pub system-small : (S : List Constraint) → every rule_in_range S ≡ true → SmallSystem S
system-small [] h = tt
system-small (r ∷ S) h = go (rule_in_range r) refl h (system-small S)
  where
    go : (b : Bool) →
        rule_in_range r ≡ b →
        elim b [ true ↦ every rule_in_range S | false ↦ false ] ≡ true →
        (every rule_in_range S ≡ true → SmallSystem S) →
        SmallConstraint r × SmallSystem S
    go true q t rest = (rule-small q, rest t)
    go false q t rest = absurd (true≢false (sym t))

pub small-member : (S : List Constraint) → SmallSystem S → (r : Constraint) → Memᴰ r S → SmallConstraint r
small-member [] h = λ r m. absurd (Memᴰ.not-nil m)
small-member (c ∷ S) h = for-members SmallConstraint c S h.0 (small-member S h.1)
