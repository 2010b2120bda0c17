-- Counting up, and keeping one of each: each turn of the loops does what the definitions do next.
use mathlib.Core.Path.{◌≡◌, refl, sym, ◌∙◌, ap, subst}
use mathlib.Core.List.{List, [], ◌∷◌, ◌++◌, append-nil}
use mathlib.Core.Bool.{Bool, true, false, cond}
use Prim.Native.Nat.{ℕ, zero, suc, ◌+◌, ◌-◌, ◌≤◌, ◌<◌}
use native.Mathlib.Omega.{arith}
use native.Mathlib.Nat.{add-zero, zero-add}
use native.Mathlib.Numerals.{add-one}
use borrow.Author.Tests.{lt-ltb, le-ltb}
use lib.ListN.{length, take, drop, get_or, set, length-set, take-append-drop, drop_of_length-le}
use lib.Seq.{drop-cons, take-suc-set, append_snoc, get_or-drop, drop-set-lt, get_or-set_same, length-take-le, drop-drop}
use Rattle.sorting.specs.Sorting.{sort_of, sort_in}
use Rattle.arranging.specs.Arranging.{indices, kept_after, kept, kept_run, order_of, Kept, Arranged, Stepped, Stepping}

-- ---- counting up

indices-on : (i n : ℕ) → indices i (suc n) ≡ indices i n ++ ((i + n) ∷ [])
indices-on i zero = ap (λ (k : ℕ). k ∷ []) (sym (add-zero i))
indices-on i (suc n) =
    let e : suc i + n ≡ i + suc n = omega arith in
    ap (λ l. i ∷ l) (indices-on (suc i) n ∙ ap (λ (k : ℕ). indices (suc i) n ++ (k ∷ [])) e)

pub length-indices : (i n : ℕ) → length (indices i n) ≡ n
length-indices i zero = refl
length-indices i (suc n) = ap suc (length-indices (suc i) n)

pub counted-on : (run : List ℕ) (i : ℕ) →
    take i run ≡ indices 0 i →
    i < length run →
    take (i + 1) (set run i i) ≡ indices 0 (i + 1)
counted-on run i e h =
    ap (λ (k : ℕ). take k (set run i i)) (add-one i)
    ∙ take-suc-set run i i h
    ∙ ap (λ l. l ++ (i ∷ [])) e
    ∙ ap (λ (k : ℕ). indices 0 i ++ (k ∷ [])) (sym (zero-add i))
    ∙ sym (indices-on 0 i)
    ∙ ap (indices 0) (sym (add-one i))

-- ---- keeping

module _ (comes : ℕ → ℕ → Bool) where
  -- what the test of one index comes to
  pub stepped : (i k : ℕ) (run : List ℕ) {b : Bool} →
      comes (get_or run (k - 1) 0) (get_or run i 0) ≡ b →
      Stepped comes i k run (cond b (k + 1) k) (cond b (set run k (get_or run i 0)) run)
  stepped i k run e =
      record { count = sym (ap (λ b. cond b (k + 1) k) e); run = sym (ap (λ b. cond b (set run k (get_or run i 0)) run) e) }

  -- after the places before i: k are kept, at the front; what is behind them is as it was
  pub record Keeping (first run : List ℕ) (i k : ℕ) : Type 0 where
    pub so_far : take k run ++ kept_after comes (get_or run (k - 1) 0) (drop i first) ≡ kept comes first
    pub behind : drop k run ≡ drop k first
    pub same : length run ≡ length first
    pub some : 1 ≤ k
    pub front : k ≤ i
    pub within : i ≤ length first

  pub keeping_start : (l : List ℕ) → (length l ≡ 0 → ⊥) → Keeping l l 1 1
  keeping_start [] h = absurd (h refl)
  keeping_start (p ∷ l) h =
      record { so_far = refl; behind = refl; same = refl; some = omega arith; front = omega arith; within = omega arith }

  pub keeping_steps : {first run : List ℕ} {i k : ℕ} → Keeping first run i k → i < length run → Stepping run i k
  keeping_steps h less = record { some = h.some; front = h.front; within = less }

  pub keeping_on : {first run after : List ℕ} {i k r : ℕ} →
      Keeping first run i k →
      i < length run →
      Stepped comes i k run r after →
      Keeping first after (i + 1) r
  keeping_on {first} {run} {after} {i} {k} {r} h less s =
      subst (λ (n : ℕ). Keeping first after (i + 1) n) (sym s.count)
      (subst (λ l. Keeping first l (i + 1) (cond t (k + 1) k)) (sym s.run) (go t refl))
    where
      p : ℕ
      p = get_or run (k - 1) 0

      q : ℕ
      q = get_or run i 0

      t : Bool
      t = comes (get_or run (k - 1) 0) (get_or run i 0)

      short : i < length first
      short = let e = h.same in omega arith

      -- the index at i was not touched
      same_at : q ≡ get_or first i 0
      same_at =
          let f = h.front in
          let e : k + (i - k) ≡ i = omega arith in
          sym (ap (λ (n : ℕ). get_or run n 0) e)
          ∙ sym (get_or-drop k run (i - k) 0)
          ∙ ap (λ l. get_or l (i - k) 0) h.behind
          ∙ get_or-drop k first (i - k) 0
          ∙ ap (λ (n : ℕ). get_or first n 0) e

      rest : drop i first ≡ q ∷ drop (i + 1) first
      rest =
          drop-cons first i 0 short ∙ (λ z. sym same_at z ∷ drop (sym (add-one i) z) first)

      next : kept_after comes p (drop i first)
          ≡ elim t [ true ↦ q ∷ kept_after comes q (drop (i + 1) first) | false ↦ kept_after comes p (drop (i + 1) first) ]
      next = ap (kept_after comes p) rest

      go : (b : Bool) → t ≡ b → Keeping first (cond b (set run k q) run) (i + 1) (cond b (k + 1) k)
      go true e =
          let f = h.front in
          let m = h.some in
          let room : k < length run = omega arith in
          let back : k + 1 - 1 ≡ k = omega arith in
          record {
            so_far =
                (λ z. take (add-one k z) (set run k q) ++ kept_after comes (get_or (set run k q) (back z) 0) (drop (i + 1) first))
                ∙ (λ z. take-suc-set run k q room z ++ kept_after comes (get_or-set_same run k q 0 room z) (drop (i + 1) first))
                ∙ append_snoc (take k run) q (kept_after comes q (drop (i + 1) first))
                ∙ ap (λ l. take k run ++ l)
                (sym (next ∙ ap (λ b. elim b [
                  | true ↦ q ∷ kept_after comes q (drop (i + 1) first)
                  | false ↦ kept_after comes p (drop
                      (i + 1) first)
                ]) e))
                ∙ h.so_far;
            behind =
                drop-set-lt (k + 1) run k q (omega arith)
                ∙ sym (drop-drop 1 k run)
                ∙ ap (drop 1) h.behind
                ∙ drop-drop 1 k first;
            same = length-set run k q ∙ h.same;
            some = omega arith;
            front = omega arith;
            within = omega arith;
          }
      go false e =
          let f = h.front in
          record {
            so_far =
                ap (λ l. take k run ++ l)
                (sym (next ∙ ap (λ b. elim b [
                  | true ↦ q ∷ kept_after comes q (drop (i + 1) first)
                  | false ↦ kept_after comes p (drop
                      (i + 1) first)
                ]) e))
                ∙ h.so_far;
            behind = h.behind;
            same = h.same;
            some = h.some;
            front = omega arith;
            within = omega arith;
          }

  pub keeping_end : {first run : List ℕ} {i k : ℕ} → Keeping first run i k → length run ≤ i → Kept comes first k run
  keeping_end {first} {run} {i} {k} h done =
      let s = h.same in
      let f = h.front in
      let w = h.within in
      let all : take k run ≡ kept comes first =
      sym (append-nil (take k run))
      ∙ ap (λ l. take k run ++ kept_after comes (get_or run (k - 1) 0) l) (sym (drop_of_length-le first {i = i} (omega arith)))
      ∙ h.so_far in
      let n : k ≡ length (kept comes first) = sym (length-take-le k run (omega arith)) ∙ ap length all in
      record {
        count = n;
        run = sym (take-append-drop k run) ∙ (λ z. all z ++ (h.behind ∙ ap (λ (m : ℕ). drop m first) n) z);
      }

  pub none_kept : (l : List ℕ) → length l ≡ 0 → Kept comes l 0 l
  none_kept [] e = record { count = refl; run = refl }
  none_kept (p ∷ l) e = absurd (let z : ⊥ = omega arith in z)

  -- ---- all of it

  pub too_long : (l : List ℕ) → 4098 < length l → Arranged comes l 0 l
  too_long l h =
      record {
        count = sym (ap (λ b. cond b 0 (length (kept comes (order_of comes (length l))))) (lt-ltb 4098 (length l) h));
        run = sym (ap (λ b. cond b l (kept_run comes (order_of comes (length l)))) (lt-ltb 4098 (length l) h));
      }

  pub arranged-run : {l counted sorted after : List ℕ} {r : ℕ} →
      length l ≤ 4098 →
      counted ≡ indices 0 (length l) →
      sorted ≡ sort_in comes counted →
      Kept comes sorted r after →
      Arranged comes l r after
  arranged-run {l} {counted} {sorted} {after} {r} h ec es k =
      let n : length counted ≡ length l = ap length ec ∙ length-indices 0 (length l) in
      let few : length counted ≤ 4098 = omega arith in
      let e : sorted ≡ order_of comes (length l) =
      es ∙ ap (λ b. cond b counted (sort_of comes counted)) (le-ltb 4098 (length counted) few) ∙ ap (sort_of comes) ec in
      record {
        count =
            k.count
            ∙ ap (λ m. length (kept comes m)) e
            ∙ sym (ap (λ b. cond b 0 (length (kept comes (order_of comes (length l))))) (le-ltb 4098 (length l) h));
        run =
            k.run
            ∙ ap (kept_run comes) e
            ∙ sym (ap (λ b. cond b l (kept_run comes (order_of comes (length l)))) (le-ltb 4098 (length l) h));
      }
