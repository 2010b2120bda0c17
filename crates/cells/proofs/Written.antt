-- Bytes written one after the other are one copy; and a number's bytes, as the library writes them, are its cell.
use Prim.Native.Nat.{ℕ, zero, suc, ◌+◌, ◌/◌, ◌^◌, ◌≤◌, ◌<◌}
use mathlib.Core.Path.{◌≡◌, refl, sym, ap, ◌∙◌}
use mathlib.Core.Bool.{cond}
use mathlib.Core.List.{List, ◌++◌, append_assoc}
use native.Mathlib.Omega.{arith}
use borrow.Author.Tests.{le-leb, lt-leb}
use lib.ListN.{length, take, drop, length-append}
use lib.Seq.{paste, take-paste, drop-paste, drop-drop, take_all, take-add, take_at, drop_at}
use lib.IntN.{ℤ}
use lib.Signed.{mag}
use mir.Syntax.{w64}
use mir.Val.{of_z}
use Rattle.std.specs.Int.{to_le_bytes}
use Rattle.std.proofs.lemmas.List.Edits.{length-paste}
use Rattle.std.proofs.lemmas.Slice.{put_mid-paste}
use borrow.Rule.Slice.PartMut.{put_mid}
use Rattle.ints.proofs.Bits.{read}
use Rattle.fraction.proofs.Quotients.{unread}
use Rattle.lp.specs.declared.Point.{Point}
use Rattle.records.specs.Number.{bytes_of}
use Rattle.records.proofs.Numbers.{written}
use Rattle.cells.specs.Cells.{unsigned_cell, cell_of, point_bytes, answer_bytes, stored}

-- ---- lengths

length-bytes_of : (n v : ℕ) → length (bytes_of n v) ≡ n
unfolding bytes_of
length-bytes_of zero v = refl
length-bytes_of (suc n) v = ap suc (length-bytes_of n (v / 256))

pub length-cell : (n : ℕ) → length (unsigned_cell n) ≡ 8
length-cell n = length-bytes_of 8 n

pub length-point : (v : Point) → length (point_bytes v) ≡ 24
length-point v =
    length-append (cell_of v.x) (cell_of v.y ++ cell_of v.d)
    ∙ (λ i. length-cell (of_z w64 v.x) i + (length-append (cell_of v.y) (cell_of v.d)
    ∙ (λ j. length-cell (of_z w64 v.y) j + length-cell (of_z w64 v.d) j)) i)

-- ---- copies one after the other

-- s, and t after it
pub paste-after : (o s t : List ℕ) (at m n : ℕ) →
    length s ≡ m →
    at ≤ length o →
    paste (paste o at s m) (at + m) t n ≡ paste o at (s ++ t) (m + n)
paste-after o s t at m n long room =
    let P = paste o at s m in
    let whole : m ≤ length s = omega arith in
    let front : take (at + m) P ≡ take at o ++ take m s = take-paste o at s m room whole in
    let k : at + m + n ≡ at + (m + n) = omega arith in
    let back : drop (at + m + n) P ≡ drop (at + (m + n)) o =
    sym (drop-drop n (at + m) P) ∙ ap (drop n) (drop-paste o at s m room whole) ∙ drop-drop n (at + m) o ∙ ap (λ j. drop j o) k in
    let both : take (m + n) (s ++ t) ≡ take m s ++ take n t =
    take-add m n (s ++ t)
    ∙ (λ i. (take_at s t m long ∙ sym (take_all m s (omega arith))) i ++ take n (drop_at s t m long i)) in
    (λ i. front i ++ take n t ++ back i)
    ∙ ap (λ l. l ++ drop (at + (m + n)) o) (append_assoc (take at o) (take m s) (take n t) ∙ ap (λ l. take at o ++ l) (sym both))

-- ---- a pair, and an answer

module _ (o : List ℕ) (at : ℕ) (v : Point) where
  -- three cells are a pair
  pub point-put : {a b c : List ℕ} →
      at + 24 ≤ length o →
      a ≡ paste o at (cell_of v.x) 8 →
      b ≡ paste a (at + 8) (cell_of v.y) 8 →
      c ≡ paste b (at + 16) (cell_of v.d) 8 →
      c ≡ stored o at 24 (point_bytes v)
  point-put {a} {b} {c} room ea eb ec =
      let long : length (cell_of v.x ++ cell_of v.y) ≡ 16 =
      length-append (cell_of v.x) (cell_of v.y) ∙ (λ i. length-cell (of_z w64 v.x) i + length-cell (of_z w64 v.y) i) in
      ec
      ∙ (λ i. paste (eb i) (at + 16) (cell_of v.d) 8)
      ∙ (λ i. paste (paste (ea i) (at + 8) (cell_of v.y) 8) (at + 16) (cell_of v.d) 8)
      ∙ ap (λ l. paste l (at + 16) (cell_of v.d) 8)
      (paste-after o (cell_of v.x) (cell_of v.y) at 8 8 (length-cell (of_z w64 v.x)) (omega arith))
      ∙ paste-after o (cell_of v.x ++ cell_of v.y) (cell_of v.d) at 16 8 long (omega arith)
      ∙ ap (λ l. paste o at l 24) (append_assoc (cell_of v.x) (cell_of v.y) (cell_of v.d))
      ∙ sym (ap (λ t. cond t (paste o at (point_bytes v) 24) o) (le-leb (at + 24) (length o) room))

pub kept-short : (o : List ℕ) (at n : ℕ) (bytes : List ℕ) → length o < at + n → o ≡ stored o at n bytes
kept-short o at n bytes h = sym (ap (λ t. cond t (paste o at bytes n) o) (lt-leb (at + n) (length o) h))

-- ---- the bytes of a number

pub cell-written : (n : ℕ) {b : List ℕ} → b ≡ to_le_bytes w64 n → b ≡ unsigned_cell n
cell-written n e = e ∙ written w64 n

pub cell-read : (z : ℤ) → mag z < 2 ^ 63 → {b : List ℕ} → b ≡ to_le_bytes w64 (of_z w64 (read z)) → b ≡ cell_of z
cell-read z h e = cell-written (of_z w64 (read z)) e ∙ ap (λ y. cell_of y) (unread {z = z} h)

-- .. in eight places of the output
pub cell-put : (o : List ℕ) (at k n : ℕ) {s : List ℕ} → s ≡ unsigned_cell n → k ≡ 8 → put_mid at k o s ≡ paste o at (unsigned_cell n) 8
cell-put o at k n {s} e ek = put_mid-paste at k o s (unsigned_cell n) 8 e (sym ek) (sym (length-cell n))

-- a number and a pair are an answer
pub answer-put : (o : List ℕ) (at outcome : ℕ) (v : Point) {a b : List ℕ} →
    at + 32 ≤ length o →
    a ≡ paste o at (unsigned_cell outcome) 8 →
    b ≡ stored a (at + 8) 24 (point_bytes v) →
    b ≡ stored o at 32 (answer_bytes outcome v)
answer-put o at outcome v {a} {b} room ea eb =
    let long = ap length ea ∙ length-paste o at (unsigned_cell outcome) 8 (omega arith) (omega (arith, length-cell outcome)) in
    let fits : at + 8 + 24 ≤ length a = omega (arith, long) in
    eb
    ∙ ap (λ t. cond t (paste a (at + 8) (point_bytes v) 24) a) (le-leb (at + 8 + 24) (length a) fits)
    ∙ (λ i. paste (ea i) (at + 8) (point_bytes v) 24)
    ∙ paste-after o (unsigned_cell outcome) (point_bytes v) at 8 24 (length-cell outcome) (omega arith)
    ∙ sym (ap (λ t. cond t (paste o at (answer_bytes outcome v) 32) o) (le-leb (at + 32) (length o) room))
