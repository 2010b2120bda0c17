-- Two bytes of a book make a number of sixteen bits, and so a label is one; the header's tail is two of them.
use Prim.Native.Nat.{ℕ, ◌+◌, ◌*◌, ◌/◌, ◌%◌, ◌<◌}
use mathlib.Core.Path.{◌≡◌, ap, ◌∙◌}
use mathlib.Core.Bool.{cond}
use mathlib.Core.List.{List}
use native.Mathlib.Omega.{arith}
use native.Mathlib.Decide.{dec_lt}
use lib.ListN.{take, drop, get_or, get_or-eq_default, length-take}
use lib.Seq.{get_or-take, get_or-drop}
use lib.Dec.{lit<}
use lib.IntN.{pos}
use mir.Syntax.{w16}
use mir.Val.{to_z}
use Rattle.records.specs.Layout.{Layout, width, at_label, at_c}
use Rattle.records.specs.Number.{number, Bytes}
use Rattle.records.specs.Record.{record_at, c_of, rule_of}
use Rattle.records.specs.Header.{floors_in, floors_of}
use Rattle.records.proofs.Numbers.{two_bytes, four_bytes}

bytes_drop : (n : ℕ) (s : List ℕ) → Bytes s → Bytes (drop n s)
bytes_drop n s b i = rw (get_or-drop n s i 0) (b (n + i))

bytes_take : (n : ℕ) (s : List ℕ) → Bytes s → Bytes (take n s)
bytes_take n s b i = go (dec_lt i n)
  where
    go : Dec (i < n) → get_or (take n s) i 0 < 256
    go (yes h) = rw (get_or-take n s i 0 h) (b i)
    go (no h) = rw (get_or-eq_default (take n s) 0 {n = i} (omega (arith, length-take n s))) (lit< tt)

two-small : (s : List ℕ) → Bytes s → number 2 s < 65536
two-small s b = omega (arith, two_bytes s 0, b 0, b 1)

pub bytes-record : (L : Layout) (s : List ℕ) → Bytes s → (i : ℕ) → Bytes (record_at L s i)
unfolding record_at
bytes-record L s b i = bytes_take (width L) (drop (i * width L) s) (bytes_drop (i * width L) s b)

-- two bytes of a record, wherever they stand
pub two-bytes-small : (L : Layout) (s : List ℕ) → Bytes s → (i n : ℕ) → number 2 (drop n (record_at L s i)) < 65536
two-bytes-small L s b i n = two-small (drop n (record_at L s i)) (bytes_drop n (record_at L s i) (bytes-record L s b i))

pub label_small : (L : Layout) (s : List ℕ) → Bytes s → (i : ℕ) → (rule_of L (record_at L s i)).label < 65536
label_small L s b i = two-bytes-small L s b i (at_label L)

-- ---- the header's tail

-- four bytes make two numbers of two
module _ (r : List ℕ) (at : ℕ) (b : Bytes r) where
  pub joined : number 2 (drop at r) + 65536 * number 2 (drop (at + 2) r) ≡ number 4 (drop at r)
  joined =
      let next : at + 3 ≡ at + 2 + 1 = omega arith in
      let high = ap (λ n. get_or r (at + 2) 0 + 256 * get_or r n 0) next ∙ two_bytes r (at + 2) in
      omega (arith, four_bytes r at, two_bytes r at, high)

  low_small : number 2 (drop at r) < 65536
  low_small = two-small (drop at r) (bytes_drop at r b)

  low_half : number 4 (drop at r) % 65536 ≡ number 2 (drop at r)
  low_half = omega (arith, joined, low_small)

  high_half : number 4 (drop at r) / 65536 ≡ number 2 (drop (at + 2) r)
  high_half = omega (arith, joined, low_small)

-- the floors that are read of the tail as one number are the header's
pub floors-read : (L : Layout) (s : List ℕ) → Bytes s → floors_in L (c_of L (record_at L s 0)) ≡ floors_of L s
floors-read L s b =
    let r = record_at L s 0 in
    let low = low_half r (at_c L) (bytes-record L s b 0) in
    let high = high_half r (at_c L) (bytes-record L s b 0) in
    λ i. cond L.floors (record { lx = to_z w16 (low i); ly = to_z w16 (high i) }) (record { lx = pos 0; ly = pos 0 })
