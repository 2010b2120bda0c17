-- The ring turned within its run by one edge, forwards or backwards: it holds the same edges, and encloses what it enclosed. Turns follow
-- one another, one record for each loop with its start, its step and its end; and what was copied says which edges are the last and the
-- first then.
use Rattle.std.specs.Prelude.{Some}
use mathlib.Core.Path.{◌≡◌, refl, sym, ◌∙◌, ap, subst}
use mathlib.Core.List.{List, [], ◌∷◌, ◌++◌}
use mathlib.Core.Bool.{Bool, true, false}
use Prim.Native.Nat.{ℕ, zero, suc, ◌+◌, ◌-◌, ◌≤◌, ◌<◌}
use native.Mathlib.Omega.{arith}
use native.Mathlib.Numerals.{add-one}
use borrow.Author.Tests.{ltb-true, ltb-false}
use lib.Dec.{ltb}
use lib.ListN.{length, get_or, set, length-set}
use lib.Seq.{get_or-set_same, get_or-set_other}
use lib.IntN.{ℤ}
use Rattle.lp.specs.declared.Constraint.{Constraint}
use Rattle.boundary.proofs.Boundary.{turned, rotated}
use Rattle.boundary.proofs.Insert.{Encloses}
use Rattle.engine.specs.Row.{named, edge, edges, Named, following}
use Rattle.engine.specs.Rings.{Forwards, Backwards, Turned, Faces, Turns}
use Rattle.engine.proofs.Named.{edges-same, edges-last}
use Rattle.engine.proofs.Places.{following-is}

-- ---- a ring that begins with its second edge, and one that begins with its last

turned_encloses :
    (D : Constraint) (S : List Constraint) (k : Constraint) (l : List Constraint) →
    Encloses D S (k ∷ l) →
    Encloses D S (l ++ (k ∷ []))
turned_encloses D S k [] b = b
turned_encloses D S k (e ∷ l) b = turned D S k e l b

back_encloses :
    (D : Constraint) (S : List Constraint) (k : Constraint) (l : List Constraint) →
    Encloses D S (l ++ (k ∷ [])) →
    Encloses D S (k ∷ l)
back_encloses D S k [] b = b
back_encloses D S k (e ∷ l) b = rotated D S e l k [] b

-- ---- one turn

module _ (run : List ℕ) (lo m : ℕ) (room : lo + suc m < length run) where
  abbrev pub after : List ℕ
  after = set run (lo + suc m) (get_or run lo 0)

  others : (k : ℕ) → k < m → get_or after (suc lo + k) 0 ≡ get_or run (suc lo + k) 0
  others k b = get_or-set_other run (lo + suc m) (suc lo + k) (get_or run lo 0) 0 (λ c. omega arith)

  last : get_or after (suc lo + m) 0 ≡ get_or run lo 0
  last = ap (λ (p : ℕ). get_or after p 0) onto ∙ get_or-set_same run (lo + suc m) (get_or run lo 0) 0 room
    where
      onto : suc lo + m ≡ lo + suc m
      onto = omega arith

  row : (e : List ℤ) → edges e after (suc lo) (suc m) ≡ edges e run (suc lo) m ++ (edge e run lo ∷ [])
  row e =
      edges-last (named e) after (suc lo) m
      ∙ λ i. edges-same (named e) after run (suc lo) (suc lo) m others i ++ (named e (last i) ∷ [])

  names : (c : ℕ) → Named c run lo (suc m) → Named c after (suc lo) (suc m)
  names c g k b = go (ltb k m) refl
    where
      over : suc lo + k ≡ lo + suc k
      over = omega arith

      none : lo + 0 ≡ lo
      none = omega arith

      go : (t : Bool) → ltb k m ≡ t → get_or after (suc lo + k) 0 ≤ c
      go true t =
          subst (λ (j : ℕ). j ≤ c) (sym (others k (ltb-true k m t) ∙ ap (λ (p : ℕ). get_or run p 0) over))
          (g (suc k) (omega (arith, ltb-true k m t)))
      go false t =
          subst (λ (j : ℕ). j ≤ c)
          (sym (ap (λ (p : ℕ). get_or after (suc lo + p) 0) here ∙ last ∙ ap (λ (p : ℕ). get_or run p 0) (sym none))) (g 0 (omega arith))
        where
          here : k ≡ m
          here = omega (arith, ltb-false k m t)

  turned-suc : Turned run lo (suc m) (suc lo) after
  turned-suc =
      record {
        same = length-set run (lo + suc m) (get_or run lo 0);
        fits = subst (λ (p : ℕ). suc lo + suc m ≤ p) (sym (length-set run (lo + suc m) (get_or run lo 0))) (omega arith);
        named = names;
        ring = λ e D S b. subst (Encloses D S) (sym (row e)) (turned_encloses D S (edge e run lo) (edges e run (suc lo) m) b);
      }

turned_on : {run : List ℕ} {lo n : ℕ} → 0 < n → lo + n < length run → Turned run lo n (lo + 1) (set run (lo + n) (get_or run lo 0))
turned_on {run} {lo} {n} some room = go n (n - 1) (omega arith) room
  where
    go : (n m : ℕ) → n ≡ suc m → lo + n < length run → Turned run lo n (lo + 1) (set run (lo + n) (get_or run lo 0))
    go n m e b =
        subst (λ (k : ℕ). Turned run lo k (lo + 1) (set run (lo + k) (get_or run lo 0))) (sym e)
        (subst (λ (k : ℕ). Turned run lo (suc m) k (set run (lo + suc m) (get_or run lo 0))) (sym (add-one lo))
        (turned-suc run lo m (subst (λ (k : ℕ). lo + k < length run) e b)))

-- ---- one turn back

module _ (run : List ℕ) (lo m : ℕ) (fits : suc lo + suc m ≤ length run) where
  abbrev before-first : List ℕ
  before-first = set run lo (get_or run (suc lo + m) 0)

  first_back : get_or before-first lo 0 ≡ get_or run (suc lo + m) 0
  first_back = get_or-set_same run lo (get_or run (suc lo + m) 0) 0 (omega arith)

  others-back : (k : ℕ) → k < m → get_or before-first (suc lo + k) 0 ≡ get_or run (suc lo + k) 0
  others-back k b = get_or-set_other run lo (suc lo + k) (get_or run (suc lo + m) 0) 0 (λ c. omega arith)

  row_back : (e : List ℤ) → edges e before-first lo (suc m) ≡ edge e run (suc lo + m) ∷ edges e run (suc lo) m
  row_back e = λ i. named e (first_back i) ∷ edges-same (named e) before-first run (suc lo) (suc lo) m others-back i

  names-back : (c : ℕ) → Named c run (suc lo) (suc m) → Named c before-first lo (suc m)
  names-back c g zero b =
      subst (λ (j : ℕ). j ≤ c) (sym (ap (λ (p : ℕ). get_or before-first p 0) none ∙ first_back)) (g m (omega arith))
    where
      none : lo + 0 ≡ lo
      none = omega arith
  names-back c g (suc k) b =
      subst (λ (j : ℕ). j ≤ c) (sym (ap (λ (p : ℕ). get_or before-first p 0) over ∙ others-back k (omega arith))) (g k (omega arith))
    where
      over : lo + suc k ≡ suc lo + k
      over = omega arith

  back-suc : Turned run (suc lo) (suc m) lo before-first
  back-suc =
      record {
        same = length-set run lo (get_or run (suc lo + m) 0);
        fits = subst (λ (p : ℕ). lo + suc m ≤ p) (sym (length-set run lo (get_or run (suc lo + m) 0))) (omega arith);
        named = names-back;
        ring = λ e D S b.
            subst (Encloses D S) (sym (row_back e))
            (back_encloses D S (edge e run (suc lo + m)) (edges e run (suc lo) m)
            (subst (Encloses D S) (edges-last (named e) run (suc lo) m) b));
      }

turned-back :
    {run : List ℕ} {lo n : ℕ} →
    0 < n →
    0 < lo →
    lo + n ≤ length run →
    Turned run lo n (lo - 1) (set run (lo - 1) (get_or run (lo + n - 1) 0))
turned-back {run} {lo} {n} some later fits = go lo n (lo - 1) (n - 1) (omega arith) (omega arith) fits
  where
    go :
        (l n p m : ℕ) →
        l ≡ suc p →
        n ≡ suc m →
        l + n ≤ length run →
        Turned run l n (l - 1) (set run (l - 1) (get_or run (l + n - 1) 0))
    go l n p m a b c =
        subst (λ (k : ℕ). Turned run k n (k - 1) (set run (k - 1) (get_or run (k + n - 1) 0))) (sym a)
        (subst (λ (k : ℕ). Turned run (suc p) k (suc p - 1) (set run (suc p - 1) (get_or run (suc p + k - 1) 0))) (sym b)
        turning)
      where
        place : suc p - 1 ≡ p
        place = omega arith

        end : suc p + suc m - 1 ≡ suc p + m
        end = omega arith

        turning : Turned run (suc p) (suc m) (suc p - 1) (set run (suc p - 1) (get_or run (suc p + suc m - 1) 0))
        turning =
            subst (λ (k : ℕ). Turned run (suc p) (suc m) k (set run k (get_or run (suc p + suc m - 1) 0))) (sym place)
            (subst (λ (k : ℕ). Turned run (suc p) (suc m) p (set run p (get_or run k 0))) (sym end)
            (back-suc run p m (omega arith)))

-- ---- one turn after another

turned_none : {run : List ℕ} {lo n : ℕ} → lo + n ≤ length run → Turned run lo n lo run
turned_none h = record { same = refl; fits = h; named = λ m g. g; ring = λ e D S b. b }

turned-again :
    {before now next : List ℕ} {lo n at to : ℕ} →
    Turned before lo n at now →
    Turned now at n to next →
    Turned before lo n to next
turned-again s t =
    record {
      same = t.same ∙ s.same;
      fits = t.fits;
      named = λ m g. t.named m (s.named m g);
      ring = λ e D S b. t.ring e D S (s.ring e D S b);
    }

-- ---- forwards: what stood in the ring is there still, and its first edges stand behind it too

pub record Forth (before : List ℕ) (lo n k at : ℕ) (now : List ℕ) : Type 0 where
  pub turned : Turned before lo n at now
  pub begun : lo ≤ at
  pub inside : at ≤ lo + k + 1
  pub kept : (p : ℕ) → p < lo + n → get_or now p 0 ≡ get_or before p 0
  pub copied : (i : ℕ) → lo + i < at → get_or now (lo + n + i) 0 ≡ get_or before (lo + i) 0

module _ {before : List ℕ} {lo n k : ℕ} (s : Forwards before lo n k) where
  pub forth_start : Forth before lo n k lo before
  forth_start =
      record {
        turned = turned_none (omega (arith, s.room));
        begun = omega arith;
        inside = omega arith;
        kept = λ p b. refl;
        copied = λ i b. absurd (never i b);
      }
    where
      never : (i : ℕ) → lo + i < lo → ⊥
      never i b = omega arith

  module _ {at : ℕ} {now : List ℕ} (f : Forth before lo n k at now) where
    pub forth_room : at < lo + k + 1 → at + n < length now
    forth_room b = omega (arith, f.turned.same, s.room)

    pub forth_step : at < lo + k + 1 → Forth before lo n k (at + 1) (set now (at + n) (get_or now at 0))
    forth_step b =
        record {
          turned = turned-again f.turned (turned_on (omega (arith, s.inside)) (forth_room b));
          begun = omega (arith, f.begun);
          inside = omega arith;
          kept = λ p c. others p (λ e. omega (arith, f.begun, c)) ∙ f.kept p c;
          copied = λ i c. go i c (ltb (lo + i) at) refl;
        }
      where
        others : (p : ℕ) → (p ≡ at + n → ⊥) → get_or (set now (at + n) (get_or now at 0)) p 0 ≡ get_or now p 0
        others p apart = get_or-set_other now (at + n) p (get_or now at 0) 0 apart

        go :
            (i : ℕ) →
            lo + i < at + 1 →
            (t : Bool) →
            ltb (lo + i) at ≡ t →
            get_or (set now (at + n) (get_or now at 0)) (lo + n + i) 0 ≡ get_or before (lo + i) 0
        go i c true t =
            let less = ltb-true (lo + i) at t in
            others (lo + n + i) (λ e. omega (arith, less)) ∙ f.copied i less
        go i c false t =
            ap (λ (p : ℕ). get_or (set now (at + n) (get_or now at 0)) p 0) onto
            ∙ get_or-set_same now (at + n) (get_or now at 0) 0 (forth_room b)
            ∙ f.kept at (omega (arith, s.inside))
            ∙ ap (λ (p : ℕ). get_or before p 0) here
          where
            over : at ≤ lo + i
            over = ltb-false (lo + i) at t

            here : at ≡ lo + i
            here = omega (arith, over)

            onto : lo + n + i ≡ at + n
            onto = omega (arith, here)

    pub forth_end : lo + k + 1 ≤ at → Faces before lo n k at now
    forth_end b =
        record {
          turned = f.turned;
          later = omega arith;
          last = ap (λ (p : ℕ). get_or now p 0) last-is ∙ f.copied k (omega arith);
          first = go (ltb (k + 1) n) refl;
        }
      where
        end : at ≡ lo + k + 1
        end = omega (arith, f.inside)

        last-is : at + n - 1 ≡ lo + n + k
        last-is = omega (arith, end)

        go : (t : Bool) → ltb (k + 1) n ≡ t → get_or now at 0 ≡ get_or before (lo + following n k) 0
        go true t =
            f.kept at (omega (arith, end, ltb-true (k + 1) n t))
            ∙ ap (λ (p : ℕ). get_or before p 0) here
            ∙ ap (λ (j : ℕ). get_or before (lo + j) 0) (sym (following-is n k t))
          where
            here : at ≡ lo + (k + 1)
            here = omega (arith, end)
        go false t =
            ap (λ (p : ℕ). get_or now p 0) here
            ∙ f.copied 0 (omega arith)
            ∙ ap (λ (j : ℕ). get_or before (lo + j) 0) (sym (following-is n k t))
          where
            here : at ≡ lo + n + 0
            here = omega (arith, end, s.inside, ltb-false (k + 1) n t)

-- ---- backwards: what stood in the ring is there still, and its last edges stand before it too

pub record Backed (before : List ℕ) (lo n k at : ℕ) (now : List ℕ) : Type 0 where
  pub turned : Turned before lo n at now
  pub begun : lo + k + 1 - n ≤ at
  pub inside : at ≤ lo
  pub kept : (p : ℕ) → lo ≤ p → get_or now p 0 ≡ get_or before p 0
  pub copied : (p : ℕ) → at ≤ p → p < lo → get_or now p 0 ≡ get_or before (p + n) 0

module _ {before : List ℕ} {lo n k : ℕ} (s : Backwards before lo n k) where
  pub backed_start : Backed before lo n k lo before
  backed_start =
      record {
        turned = turned_none s.fits;
        begun = omega (arith, s.inside);
        inside = omega arith;
        kept = λ p b. refl;
        copied = λ p a b. absurd (never p a b);
      }
    where
      never : (p : ℕ) → lo ≤ p → p < lo → ⊥
      never p a b = omega arith

  module _ {at : ℕ} {now : List ℕ} (f : Backed before lo n k at now) where
    pub backed_room : at + n ≤ length now
    backed_room = f.turned.fits

    pub backed_step : lo + k + 1 - n < at → Backed before lo n k (at - 1) (set now (at - 1) (get_or now (at + n - 1) 0))
    backed_step b =
        record {
          turned = turned-again f.turned (turned-back (omega (arith, s.inside)) (omega arith) f.turned.fits);
          begun = omega arith;
          inside = omega (arith, f.inside);
          kept = λ p c. others p (λ e. omega (arith, f.inside, c)) ∙ f.kept p c;
          copied = λ p a c. go p a c (ltb p at) refl;
        }
      where
        others : (p : ℕ) → (p ≡ at - 1 → ⊥) → get_or (set now (at - 1) (get_or now (at + n - 1) 0)) p 0 ≡ get_or now p 0
        others p apart = get_or-set_other now (at - 1) p (get_or now (at + n - 1) 0) 0 apart

        go :
            (p : ℕ) →
            at - 1 ≤ p →
            p < lo →
            (t : Bool) →
            ltb p at ≡ t →
            get_or (set now (at - 1) (get_or now (at + n - 1) 0)) p 0 ≡ get_or before (p + n) 0
        go p a c false t =
            let over = ltb-false p at t in
            others p (λ e. omega (arith, over)) ∙ f.copied p over c
        go p a c true t =
            ap (λ (q : ℕ). get_or (set now (at - 1) (get_or now (at + n - 1) 0)) q 0) here
            ∙ get_or-set_same now (at - 1) (get_or now (at + n - 1) 0) 0 (omega (arith, f.turned.fits, s.inside))
            ∙ f.kept (at + n - 1) (omega (arith, s.inside, s.room))
            ∙ ap (λ (q : ℕ). get_or before q 0) onto
          where
            here : p ≡ at - 1
            here = omega (arith, ltb-true p at t)

            onto : at + n - 1 ≡ p + n
            onto = omega (arith, here)

    pub backed_end : at ≤ lo + k + 1 - n → Faces before lo n k at now
    backed_end b =
        record {
          turned = f.turned;
          later = omega (arith, end, s.room);
          last = f.kept (at + n - 1) (omega (arith, end, s.room)) ∙ ap (λ (p : ℕ). get_or before p 0) last-is;
          first = go (ltb (k + 1) n) refl;
        }
      where
        end : at ≡ lo + k + 1 - n
        end = omega (arith, f.begun)

        last-is : at + n - 1 ≡ lo + k
        last-is = omega (arith, end, s.room)

        go : (t : Bool) → ltb (k + 1) n ≡ t → get_or now at 0 ≡ get_or before (lo + following n k) 0
        go true t =
            f.copied at (omega arith) (omega (arith, end, s.room, ltb-true (k + 1) n t))
            ∙ ap (λ (p : ℕ). get_or before p 0) here
            ∙ ap (λ (j : ℕ). get_or before (lo + j) 0) (sym (following-is n k t))
          where
            here : at + n ≡ lo + (k + 1)
            here = omega (arith, end, s.room)
        go false t =
            f.kept at (omega (arith, here))
            ∙ ap (λ (p : ℕ). get_or before p 0) here
            ∙ ap (λ (j : ℕ). get_or before (lo + j) 0) (sym (following-is n k t))
          where
            here : at ≡ lo + 0
            here = omega (arith, end, s.inside, ltb-false (k + 1) n t)

-- ---- where there is room

pub turns-there : {run : List ℕ} {lo n k at : ℕ} {now : List ℕ} → Faces run lo n k at now → Turns run lo n k (Some at) now
turns-there f = record { same = f.turned.same; faces = f }
