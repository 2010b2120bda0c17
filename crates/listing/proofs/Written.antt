-- The list of points, written one point at a time; and what it is as bytes.
use mathlib.Core.Path.{◌≡◌, refl, sym, ◌∙◌, ap, subst}
use mathlib.Core.List.{List, [], ◌∷◌, ◌++◌, map}
use mathlib.Core.Bool.{Bool, true, false, cond, ◌&&◌}
use Prim.Native.Nat.{ℕ, zero, suc, ◌+◌, ◌*◌, ◌≤◌, ◌<◌}
use native.Mathlib.Omega.{arith}
use native.Mathlib.Nat.{mul-suc}
use borrow.Author.Tests.{le-leb, lt-leb}
use lib.Dec.{leb}
use lib.ListN.{length, take, drop, get_or, length-append, length-map, get_or-map}
use lib.Seq.{paste, paste-zero, take-paste, drop-paste, drop-drop, take-add, take_at, drop-append-add}
use lib.Seq.{get_or-take, length-take-le, take_all}
use lib.IntN.{ℤ}
use Rattle.lp.specs.declared.Point.{Point}
use Rattle.cells.specs.Cells.{point_bytes, stored}
use Rattle.cells.proofs.Written.{length-point}
use Rattle.sorting.specs.Keys.{point_at}
use Rattle.listing.specs.Listing.{points_bytes, points_of, written, fits, Lists, Listing}

-- ---- the bytes of a list of points

pub length-points : (l : List Point) → length (points_bytes l) ≡ 24 * length l
unfolding points_bytes
length-points [] = refl
length-points (v ∷ l) =
    length-append (point_bytes v) (points_bytes l)
    ∙ (λ i. length-point v i + length-points l i)
    ∙ (let e = mul-suc 24 (length l) in omega arith)

-- point i of the list
point-bytes : (l : List Point) (i : ℕ) (d : Point) → i < length l → take 24 (drop (24 * i) (points_bytes l)) ≡ point_bytes (get_or l i d)
unfolding points_bytes
point-bytes [] i d h = absurd (let z : ⊥ = omega arith in z)
point-bytes (v ∷ l) zero d h = take_at (point_bytes v) (points_bytes l) 24 (length-point v)
point-bytes (v ∷ l) (suc i) d h =
    let e : 24 * suc i ≡ length (point_bytes v) + 24 * i = let n = length-point v in let m = mul-suc 24 i in omega arith in
    ap (λ (k : ℕ). take 24 (drop k (point_bytes v ++ points_bytes l))) e
    ∙ ap (take 24) (drop-append-add (point_bytes v) (points_bytes l) (24 * i))
    ∙ point-bytes l i d (omega arith)

-- ---- copies one after the other

paste-on : (d t b : List ℕ) (j m : ℕ) →
    j ≤ length t →
    take m b ≡ take m (drop j t) →
    paste (paste d 0 t j) j b m ≡ paste d 0 t (j + m)
paste-on d t b j m hj e =
    let P = paste d 0 t j in
    let z : 0 + j ≡ j = omega arith in
    let front : take j P ≡ take j t = ap (λ (k : ℕ). take k P) (sym z) ∙ take-paste d 0 t j (omega arith) hj in
    let tail : drop j P ≡ drop j d = ap (λ (k : ℕ). drop k P) (sym z) ∙ drop-paste d 0 t j (omega arith) hj ∙ ap (λ
    (k : ℕ). drop k d) z in
    let back : drop (j + m) P ≡ drop (0 + (j + m)) d =
    sym (drop-drop m j P) ∙ ap (drop m) tail ∙ drop-drop m j d ∙ ap (λ (k : ℕ). drop k d) (let y : j + m ≡ 0 +
    (j + m) = omega arith in y) in
    (λ i. front i ++ e i ++ back i) ∙ ap (λ l. l ++ drop (0 + (j + m)) d) (sym (take-add j m t))

-- ---- the loop

module _ (keys : List ℤ) (run : List ℕ) (n : ℕ) where
  abbrev bytes : List ℕ
  bytes = points_bytes (points_of keys run n)

  pub record Putting (first out : List ℕ) (i : ℕ) : Type 0 where
    pub so_far : out ≡ paste first 0 bytes (24 * i)
    pub same : length out ≡ length first
    pub few : i ≤ n
    pub asked : Listing run n first

  pub putting_start : {first : List ℕ} → Listing run n first → Putting first first 0
  putting_start {first} h = record { so_far = paste-zero first 0 bytes; same = refl; few = omega arith; asked = h }

  long : n ≤ length run → length bytes ≡ 24 * n
  long h =
      length-points (points_of keys run n)
      ∙ ap (λ (k : ℕ). 24 * k) (length-map (take n run) (point_at keys) ∙ length-take-le n run h)

  pub putting_on : {first out after : List ℕ} {i : ℕ} {v : Point} →
      Putting first out i →
      i < n →
      v ≡ point_at keys (get_or run i 0) →
      after ≡ stored out (24 * i) 24 (point_bytes v) →
      length after ≡ length out →
      Putting first after (i + 1)
  putting_on {first} {out} {after} {i} {v} p less ev ea kept =
      let all = p.asked.all in
      let room = p.asked.room in
      let s = p.same in
      let l = long all in
      let here : 24 * i + 24 ≤ length out = omega arith in
      let many : length (points_of keys run n) ≡ n = length-map (take n run) (point_at keys) ∙ length-take-le n run all in
      let at : get_or (points_of keys run n) i (point_at keys 0) ≡ point_at keys (get_or run i 0) =
      get_or-map (point_at keys) (take n run) i 0 ∙ ap (point_at keys) (get_or-take n run i 0 less) in
      let same_bytes : take 24 (point_bytes v) ≡ take 24 (drop (24 * i) bytes) =
      take_all 24 (point_bytes v) (let k = length-point v in omega arith)
      ∙ ap point_bytes (ev ∙ sym at)
      ∙ sym (point-bytes (points_of keys run n) i (point_at keys 0) (subst (λ (k : ℕ). i < k) (sym many) less)) in
      let next : 24 * i + 24 ≡ 24 * (i + 1) = omega arith in
      record {
        so_far =
            ea
            ∙ ap (λ t. cond t (paste out (24 * i) (point_bytes v) 24) out) (le-leb (24 * i + 24) (length out) here)
            ∙ ap (λ o. paste o (24 * i) (point_bytes v) 24) p.so_far
            ∙ paste-on first bytes (point_bytes v) (24 * i) 24 (omega arith) same_bytes
            ∙ ap (paste first 0 bytes) next;
        same = kept ∙ s;
        few = omega arith;
        asked = p.asked;
      }

  pub putting_end : {first out : List ℕ} {i : ℕ} → Putting first out i → n ≤ i → out ≡ written keys run n first
  putting_end {first} {out} {i} p done =
      let f = p.few in
      let e : i ≡ n = omega arith in
      p.so_far ∙ ap (λ (k : ℕ). paste first 0 bytes (24 * k)) e

  -- ---- all of it

  abbrev told : List ℕ → Bool → Bool → List ℕ
  told out a b = cond (a && b) (written keys run n out) out

  pub too_few : (out : List ℕ) → length run < n → Lists keys run n out false out
  too_few out h =
      record {
        told = sym (ap (λ a. a && leb (24 * n) (length out)) (lt-leb n (length run) h));
        output = sym (ap (λ a. told out a (leb (24 * n) (length out))) (lt-leb n (length run) h));
      }

  pub no_room : (out : List ℕ) → n ≤ length run → length out < 24 * n → Lists keys run n out false out
  no_room out h k =
      record {
        told = sym (λ i. le-leb n (length run) h i && lt-leb (24 * n) (length out) k i);
        output = sym (λ i. told out (le-leb n (length run) h i) (lt-leb (24 * n) (length out) k i));
      }

  pub all_listed : {out after : List ℕ} →
      n ≤ length run →
      24 * n ≤ length out →
      after ≡ written keys run n out →
      Lists keys run n out true after
  all_listed {out} h k e =
      record {
        told = sym (λ i. le-leb n (length run) h i && le-leb (24 * n) (length out) k i);
        output = e ∙ sym (λ i. told out (le-leb n (length run) h i) (le-leb (24 * n) (length out) k i));
      }
