-- The bytes of a book: how long they are, where a record of the chain stands in them, and what the code copies there.
use Prim.Native.Nat.{ℕ, zero, suc, ◌+◌, ◌*◌, ◌/◌, ◌≤◌, ◌<◌}
use mathlib.Core.Path.{◌≡◌, refl, sym, ap, ◌∙◌}
use mathlib.Core.List.{List, [], ◌∷◌, ◌++◌}
use native.Mathlib.Omega.{arith}
use native.Mathlib.Nat.{zero-mul, suc-mul, add-zero, add_comm, mul_comm, mul-suc}
use native.Mathlib.Numerals.{add-one, one-add}
use mathlib.Core.Bool.{cond}
use mathlib.Core.List.{append_assoc}
use borrow.Author.Tests.{lt-ltb, le-ltb}
use lib.Dec.{ltb, leb-suc-suc}
use lib.ListN.{length, take, drop, get_or, length-append, length-map, get_or-map}
use lib.Seq.{take_at, drop-drop, drop-append-add, take-add, take-take, take-paste, drop-paste, paste, get_or-take, length-take-le}
use Rattle.lp.specs.declared.Terms.{Terms}
use Rattle.records.specs.declared.Rule.{Rule}
use Rattle.records.specs.Record.{record_at, rule_of}
use Rattle.records.specs.Layout.{Layout, v2, width}
use Rattle.records.specs.Number.{bytes_of}
use Rattle.packing.specs.Bytes.{record_bytes, header_bytes, rule_bytes}
use Rattle.repacker.specs.Repacking.{next_of, chain_bytes, book_of, rules_at}

-- ---- lengths

pub length-bytes_of : (n v : ℕ) → length (bytes_of n v) ≡ n
unfolding bytes_of
length-bytes_of zero v = refl
length-bytes_of (suc n) v = ap suc (length-bytes_of n (v / 256))

module _ (L : Layout) where
  pub length-record_bytes : (l k a b m c : ℕ) → length (record_bytes L l k a b m c) ≡ width L
  unfolding record_bytes
  length-record_bytes l k a b m c = simp (length-append, length-bytes_of) (omega arith)

  pub length-chain_bytes : (k : ℕ) (rs : List Rule) → length (chain_bytes L k rs) ≡ length rs * width L
  unfolding chain_bytes
  length-chain_bytes k [] = sym (zero-mul (width L))
  length-chain_bytes k (r ∷ rs) =
      length-append (rule_bytes L (next_of k rs) r) (chain_bytes L (suc k) rs)
      ∙ rw (length-record_bytes, length-chain_bytes (suc k) rs, suc-mul) (add_comm (width L) (length rs * width L))

  pub length-book_of : (o : Terms) (rs : List Rule) → length (book_of L o rs) ≡ width L * (length rs + 1)
  unfolding book_of
  length-book_of o rs =
      length-append (header_bytes L (next_of 0 rs) o (length rs)) (chain_bytes L 1 rs)
      ∙ rw (length-record_bytes, length-chain_bytes 1 rs)
      (sym
      (ap (λ m. width L * m) (add-one (length rs)) ∙ mul-suc (width L) (length rs) ∙ add_comm (width L * length rs) (width L)
      ∙ ap (λ x. width L + x) (mul_comm (width L) (length rs))))

  -- ---- a record of the chain

  pub chain-record : (k : ℕ) (rs : List Rule) (j : ℕ) (d : Rule) →
      j < length rs →
      take (width L) (drop (j * width L) (chain_bytes L k rs)) ≡ rule_bytes L (next_of (k + j) (drop (suc j) rs)) (get_or rs j d)
  unfolding chain_bytes
  chain-record k [] j d h = absurd (let z : ⊥ = omega arith in z)
  chain-record k (r ∷ rs) zero d h =
      rw (zero-mul, add-zero)
      (take_at (rule_bytes L (next_of k rs) r) (chain_bytes L (suc k) rs) (width L) (length-record_bytes _ _ _ _ _ _))
  chain-record k (r ∷ rs) (suc j) d h =
      let R = rule_bytes L (next_of k rs) r in
      let C = chain_bytes L (suc k) rs in
      let e : suc j * width L ≡ length R + j * width L =
      suc-mul j (width L) ∙ add_comm (j * width L) (width L) ∙ ap (λ n. n + j * width L) (sym (length-record_bytes _ _ _ _ _ _)) in
      let f : suc k + j ≡ k + suc j = omega arith in
      ap (λ n. take (width L) (drop n (R ++ C))) e
      ∙ ap (take (width L)) (drop-append-add R C (j * width L))
      ∙ chain-record (suc k) rs j d (omega arith)
      ∙ ap (λ n. rule_bytes L (next_of n (drop (suc j) rs)) (get_or rs j d)) f

-- the link of a record of the chain, by its place
pub next-is : (m j : ℕ) (rs : List Rule) → next_of m (drop j rs) ≡ cond (ltb j (length rs)) (suc m) 0
next-is m zero [] = refl
next-is m zero (r ∷ rs) = rw (lt-ltb 0 (suc (length rs)) (omega arith))
next-is m (suc j) [] = rw (le-ltb (suc j) 0 (omega arith))
next-is m (suc j) (r ∷ rs) = next-is m j rs ∙ rw (leb-suc-suc (suc j) (length rs))

-- ---- copies one after the other

pub paste-next : (d t b : List ℕ) (a j m : ℕ) →
    a ≤ length d →
    j ≤ length t →
    take m b ≡ take m (drop j t) →
    paste (paste d a t j) (a + j) b m ≡ paste d a t (j + m)
paste-next d t b a j m ha hj e =
    let P = paste d a t j in
    let front : take (a + j) P ≡ take a d ++ take j t = take-paste d a t j ha hj in
    let n : a + j + m ≡ a + (j + m) = omega arith in
    let back : drop (a + j + m) P ≡ drop (a + (j + m)) d =
    sym (drop-drop m (a + j) P) ∙ ap (drop m) (drop-paste d a t j ha hj) ∙ drop-drop m (a + j) d ∙ ap (λ k. drop k d) n in
    (λ i. front i ++ e i ++ back i)
    ∙ ap (λ l. l ++ drop (a + (j + m)) d)
    (append_assoc (take a d) (take j t) (take m (drop j t)) ∙ ap (λ l. take a d ++ l) (sym (take-add j m t)))

-- ---- the code's records of the chain

pub length-rules : (L : Layout) (s records : List ℕ) (n : ℕ) → n ≤ length records → length (rules_at L s (take n records)) ≡ n
length-rules L s records n g = length-map (take n records) (λ (i : ℕ). rule_of L (record_at L s i)) ∙ length-take-le n records g

-- record k + 1 of the repacked form, from the chain's record indices
rule-record : (L : Layout) (s records : List ℕ) (n k : ℕ) →
    k < n →
    n ≤ length records →
    rule_bytes v2 (cond (ltb (k + 1) n) (k + 1 + 1) 0) (rule_of L (record_at L s (get_or records k 0))) ≡ take 14
    (drop (14 * k) (chain_bytes v2 1 (rules_at L s (take n records))))
rule-record L s records n k h g =
    let long : length (rules_at L s (take n records)) ≡ n = length-rules L s records n g in
    let next : next_of (1 + k) (drop (suc k) (rules_at L s (take n records))) ≡ cond (ltb (k + 1) n) (k + 1 + 1) 0 =
    next-is (1 + k) (suc k) (rules_at L s (take n records)) ∙ rw (long, add-one k, add-one (suc k), one-add k) in
    let rule : get_or (rules_at L s (take n records)) k (rule_of L (record_at L s 0)) ≡ rule_of L (record_at L s (get_or records k 0)) =
    get_or-map (λ (i : ℕ). rule_of L (record_at L s i)) (take n records) k 0
    ∙ ap (λ i. rule_of L (record_at L s i)) (get_or-take n records k 0 h) in
    sym (ap (λ m. take 14 (drop m (chain_bytes v2 1 (rules_at L s (take n records))))) (mul_comm 14 k)
    ∙ chain-record v2 1 (rules_at L s (take n records)) k (rule_of L (record_at L s 0)) (rw long h) ∙ (λ i. rule_bytes v2 (next i) (rule i)))

-- the bytes that are copied there are that record's
pub rule-copied : (L : Layout) (s records bytes : List ℕ) (n k link : ℕ) →
    k < n →
    n ≤ length records →
    link ≡ cond (ltb (k + 1) n) (k + 1 + 1) 0 →
    bytes ≡ rule_bytes v2 link (rule_of L (record_at L s (get_or records k 0))) →
    take 14 bytes ≡ take 14 (drop (14 * k) (chain_bytes v2 1 (rules_at L s (take n records))))
rule-copied L s records bytes n k link h g e b =
    let whole = b ∙ ap (λ m. rule_bytes v2 m (rule_of L (record_at L s (get_or records k 0)))) e ∙ rule-record L s records n k h g in
    ap (take 14) whole ∙ take-take 14 14 (drop (14 * k) (chain_bytes v2 1 (rules_at L s (take n records)))) (omega arith)
