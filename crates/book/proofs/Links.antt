-- The walk along the links, a link at a time, and the marks of the records visited. A mark is set for each record visited, and none is set
-- twice:
-- so the marks that are left count down, and the walk ends.
use Prim.Native.Nat.{ℕ, zero, suc, ◌+◌, ◌≤◌, ◌<◌}
use mathlib.Core.Path.{◌≡◌, refl, sym, ap, ◌∙◌}
use mathlib.Core.Bool.{Bool, true, false}
use mathlib.Core.List.{List, [], ◌∷◌, ◌++◌, map}
use native.Mathlib.Omega.{arith}
use native.Mathlib.Nat.{le_of_suc-le-suc}
use native.Mathlib.Decide.{ℕ_discrete}
use borrow.Author.Tests.{lt-ltb, le-ltb, eq-eqb, ne_eqb}
use lib.ListN.{length, get_or, set, replicate, length-set, length-replicate, get_or-replicate, length-append}
use lib.Seq.{get_or-set_same, get_or-set_other}
use Rattle.records.specs.Layout.{Layout}
use Rattle.records.specs.Record.{record_at, link_of, decoded_of, number_of}
use Rattle.records.specs.Header.{terms_of, count_of}
use Rattle.book.specs.Reading.{Reading, refused, accepted, Ending, records_of, entry_at, label_at, memb, follow, walk}
use Rattle.book.proofs.Members.{or_false, memb_snoc}

-- ---- a link of the walk: document 01's tests, one by one

module _ (L : Layout) (s : List ℕ) (links : ℕ) (done : List ℕ) (at i : ℕ) (e : i ≡ link_of L (record_at L s at)) where
  abbrev stop : Reading → Ending
  stop r = record { reading = r; passed = done }

  -- one link more
  pub walk-once : walk L s (suc links) done at ≡ follow L s done at i (walk L s links (done ++ (i ∷ [])) i)
  unfolding walk
  walk-once = rw e

  pub walk_ends : i ≡ 0 → walk L s (suc links) done at ≡ stop (accepted (terms_of L s) (map (entry_at L s) done))
  unfolding follow
  walk_ends z = walk-once ∙ rw (eq-eqb i 0 z)

  module _ (z : i ≡ 0 → ⊥) where
    pub walk-over : count_of L s < i → walk L s (suc links) done at ≡ stop (refused 6 at)
    unfolding follow
    walk-over h = walk-once ∙ rw (ne_eqb i 0 z, lt-ltb (count_of L s) i h)

    module _ (h : i ≤ count_of L s) where
      pub walk-again : memb i done ≡ true → walk L s (suc links) done at ≡ stop (refused 7 at)
      unfolding follow
      walk-again m = walk-once ∙ rw (ne_eqb i 0 z, le-ltb (count_of L s) i h, m)

      module _ (m : memb i done ≡ false) where
        pub walk-fault : (number_of (decoded_of L (record_at L s i)) ≡ 0 → ⊥) →
            walk L s (suc links) done at ≡ stop (refused (number_of (decoded_of L (record_at L s i))) i)
        unfolding follow
        walk-fault f =
            walk-once ∙ rw (ne_eqb i 0 z, le-ltb (count_of L s) i h, m, ne_eqb (number_of (decoded_of L (record_at L s i))) 0 f)

        module _ (f : number_of (decoded_of L (record_at L s i)) ≡ 0) where
          pub walk_repeat : memb (label_at L s i) (map (label_at L s) done) ≡ true → walk L s (suc links) done at ≡ stop (refused 12 i)
          unfolding follow
          walk_repeat q =
              walk-once ∙ rw (ne_eqb i 0 z, le-ltb (count_of L s) i h, m, eq-eqb (number_of (decoded_of L (record_at L s i))) 0 f, q)

          pub walk-on : memb (label_at L s i) (map (label_at L s) done) ≡ false →
              walk L s (suc links) done at ≡ walk L s links (done ++ (i ∷ [])) i
          unfolding follow
          walk-on q =
              walk-once ∙ rw (ne_eqb i 0 z, le-ltb (count_of L s) i h, m, eq-eqb (number_of (decoded_of L (record_at L s i))) 0 f, q)

-- ---- the marks

-- how many marks are not set
pub unseen : List Bool → ℕ
unseen [] = 0
unseen (true ∷ l) = unseen l
unseen (false ∷ l) = suc (unseen l)

unseen-set : (l : List Bool) (i : ℕ) → i < length l → get_or l i false ≡ false → unseen l ≡ suc (unseen (set l i true))
unfolding unseen
unseen-set [] i h e = absurd (let z : ⊥ = omega arith in z)
unseen-set (true ∷ l) zero h e = absurd (let z : ◌≡◌ {A = ℕ} 0 1 = cc in let y : ⊥ = omega arith in y)
unseen-set (false ∷ l) zero h e = refl
unseen-set (true ∷ l) (suc i) h e = unseen-set l i (le_of_suc-le-suc h) e
unseen-set (false ∷ l) (suc i) h e = ap suc (unseen-set l i (le_of_suc-le-suc h) e)

unseen-fresh : (m : ℕ) → unseen (replicate m false) ≡ m
unfolding unseen
unseen-fresh zero = refl
unseen-fresh (suc m) = ap suc (unseen-fresh m)

-- marks for the records 0 to m: set for the header and for each record in `done`
pub record Marked (m : ℕ) (done : List ℕ) (seen : List Bool) : Type 0 where
  pub size : length seen ≡ suc m
  pub agrees : (i : ℕ) → 0 < i → i ≤ m → get_or seen i false ≡ memb i done
  pub counted : unseen seen + length done ≡ m

pub marked_start : (m : ℕ) → Marked m [] (true ∷ replicate m false)
unfolding memb unseen
marked_start m =
    record {
      size = ap suc (length-replicate m false);
      agrees = go;
      counted = omega (arith, unseen-fresh m);
    }
  where
    go : (i : ℕ) → 0 < i → i ≤ m → get_or (true ∷ replicate m false) i false ≡ false
    go zero h k = absurd (let z : ⊥ = omega arith in z)
    go (suc i) h k = get_or-replicate m i false false k

module _
    {m : ℕ} {done : List ℕ} {seen : List Bool} (marks : Marked m done seen) (i : ℕ) (h : 0 < i) (k : i ≤ m)
    (new : memb i done ≡ false) where
  one_less : unseen seen ≡ suc (unseen (set seen i true))
  one_less = unseen-set seen i (omega (arith, marks.size)) (marks.agrees i h k ∙ new)

  -- a record that is not visited leaves room for it
  pub marked_room : length done < m
  marked_room = omega (arith, one_less, marks.counted)

  pub marked_step : Marked m (done ++ (i ∷ [])) (set seen i true)
  marked_step =
      record {
        size = length-set seen i true ∙ marks.size;
        agrees = λ j a b. go j a b (ℕ_discrete j i);
        counted = omega (arith, one_less, marks.counted, length-append done (i ∷ []));
      }
    where
      go : (j : ℕ) → 0 < j → j ≤ m → Dec (j ≡ i) → get_or (set seen i true) j false ≡ memb j (done ++ (i ∷ []))
      go j a b (yes e) =
          rw e (get_or-set_same seen i true false (omega (arith, marks.size)) ∙ sym (memb_snoc i i done ∙ rw (new, eq-eqb i i refl)))
      go j a b (no n) =
          get_or-set_other seen i j true false n ∙ marks.agrees j a b ∙ sym (memb_snoc j i done ∙ rw (ne_eqb j i n, or_false))

-- the record indices of the entries of records
pub indices : (L : Layout) (s done : List ℕ) → records_of (map (entry_at L s) done) ≡ done
indices L s [] = refl
indices L s (i ∷ done) = ap (λ l. i ∷ l) (indices L s done)
