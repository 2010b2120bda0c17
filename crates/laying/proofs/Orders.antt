-- The order in which the rules enter: counted, or sorted, it names each of them and nothing else.
use mathlib.Core.Path.{◌≡◌, sym, ◌∙◌, ap, subst}
use mathlib.Core.List.{List, [], ◌∷◌, ◌++◌, Memᴰ}
use mathlib.Core.Bool.{Bool, true, false, cond}
use Prim.Native.Nat.{ℕ, zero, suc, ◌+◌, ◌<◌}
use native.Mathlib.Omega.{arith}
use native.Mathlib.Nat.{add-zero}
use native.Mathlib.Numerals.{add-one}
use lib.Dec.{ltb}
use lib.ListN.{length, take, set}
use lib.Seq.{take-suc-set}
use Rattle.sorting.specs.Sorting.{sort_of, sort_in}
use Rattle.sorting.proofs.Sorted.{sort-keeps, sort-loses-none}
use Rattle.region.proofs.Theorems.{places}
use Rattle.laying.specs.Laying.{Names}

places-on : (i n : ℕ) → places i (suc n) ≡ places i n ++ ((i + n) ∷ [])
places-on i zero = ap (λ (k : ℕ). k ∷ []) (sym (add-zero i))
places-on i (suc n) =
    let e : suc i + n ≡ i + suc n = omega arith in
    ap (λ l. i ∷ l) (places-on (suc i) n ∙ ap (λ (k : ℕ). places (suc i) n ++ (k ∷ [])) e)

pub counted-rules : (run : List ℕ) (i : ℕ) →
    take i run ≡ places 2 i →
    i < length run →
    take (i + 1) (set run i (i + 2)) ≡ places 2 (i + 1)
counted-rules run i e h =
    let c : i + 2 ≡ 2 + i = omega arith in
    ap (λ (k : ℕ). take k (set run i (i + 2))) (add-one i)
    ∙ take-suc-set run i (i + 2) h
    ∙ ap (λ l. l ++ ((i + 2) ∷ [])) e
    ∙ ap (λ (k : ℕ). places 2 i ++ (k ∷ [])) c
    ∙ sym (places-on 2 i)
    ∙ ap (places 2) (sym (add-one i))

pub counted-names : (n : ℕ) {order : List ℕ} → order ≡ places 2 n → Names n order
counted-names n e =
    record {
      to = λ k m. subst (λ (l : List ℕ). Memᴰ k l) (sym e) m;
      from = λ k m. subst (λ (l : List ℕ). Memᴰ k l) e m;
    }

-- sorting keeps the members; too many stay as they are
pub sorted-names : (comes : ℕ → ℕ → Bool) (n : ℕ) {counted sorted : List ℕ} →
    counted ≡ places 2 n →
    sorted ≡ sort_in comes counted →
    Names n sorted
sorted-names comes n {counted} {sorted} ec es = go (ltb 4098 (length (places 2 n))) (es ∙ ap (sort_in comes) ec)
  where
    go : (b : Bool) → sorted ≡ cond b (places 2 n) (sort_of comes (places 2 n)) → Names n sorted
    go true all = counted-names n all
    go false all =
        record {
          to = λ k m. subst (λ (l : List ℕ). Memᴰ k l) (sym all) (sort-loses-none comes (places 2 n) k m);
          from = λ k m. sort-keeps comes (places 2 n) k (subst (λ (l : List ℕ). Memᴰ k l) all m);
        }
