-- Records as bytes: what the code writes is what the definitions say.
use Prim.Native.Nat.{ℕ, ◌+◌, ◌*◌, ◌%◌, ◌<◌}
use mathlib.Core.Path.{◌≡◌, refl, sym, ap, ◌∙◌}
use mathlib.Core.Bool.{Bool, true, false, cond}
use mathlib.Core.List.{List, [], ◌∷◌}
use native.Mathlib.Omega.{arith}
use lib.IntN.{pos}
use lib.ListN.{drop, get_or}
use mir.Syntax.{Width, w16, w32}
use mir.Val.{to_z, of_z, Fits}
use mir.ValLaws.{of_z-to_z}
use Rattle.std.specs.Int.{to_le_bytes}
use Rattle.records.specs.declared.fields.Fields.{Fields}
use Rattle.records.specs.Layout.{Layout, v2, at_c}
use Rattle.records.specs.Number.{number, bytes_of, Bytes}
use Rattle.records.specs.Record.{record_at, c_of, rule_of, fields_of}
use Rattle.records.specs.Header.{terms_of}
use Rattle.records.proofs.Numbers.{written}
use Rattle.records.proofs.Small.{two-bytes-small, bytes-record, joined}
use Rattle.packing.specs.Bytes.{record_bytes, tail_with, tail_of, header_bytes}

-- ---- version 2, byte by byte

pub fourteen : (l k a b m c : ℕ) {l' a' b' m' c' : List ℕ} →
    k < 256 →
    l' ≡ to_le_bytes w16 l →
    a' ≡ to_le_bytes w16 a →
    b' ≡ to_le_bytes w16 b →
    m' ≡ to_le_bytes w16 m →
    c' ≡ to_le_bytes w32 c →
    get_or l' 0 0 ∷ get_or l' 1 0 ∷ k ∷ 0 ∷ get_or a' 0 0 ∷ get_or a' 1 0 ∷ get_or b' 0 0 ∷ get_or b' 1 0 ∷ get_or m' 0 0 ∷ get_or m' 1 0 ∷
    get_or c' 0 0 ∷ get_or c' 1 0 ∷ get_or c' 2 0 ∷ get_or c' 3 0 ∷ [] ≡ record_bytes v2 l k a b m c
unfolding record_bytes bytes_of
fourteen l k a b m c hk el ea eb em ec =
    let pk : k ≡ k % 256 = omega arith in
    let fl = el ∙ written w16 l in
    let fa = ea ∙ written w16 a in
    let fb = eb ∙ written w16 b in
    let fm = em ∙ written w16 m in
    let fc = ec ∙ written w32 c in
    λ i. get_or (fl i) 0 0 ∷ get_or (fl i) 1 0 ∷ pk i ∷ 0 ∷ get_or (fa i) 0 0 ∷ get_or (fa i) 1 0 ∷ get_or (fb i) 0 0 ∷ get_or (fb i) 1 0 ∷
    get_or (fm i) 0 0 ∷ get_or (fm i) 1 0 ∷ get_or (fc i) 0 0 ∷ get_or (fc i) 1 0 ∷ get_or (fc i) 2 0 ∷ get_or (fc i) 3 0 ∷ []

-- sixteen and thirty-two bits, read as signed and written again, are as they were
kept : (w : Width) (x y : ℕ) → Fits w x → x ≡ y → x ≡ of_z w (to_z w y)
kept w x y f e = sym (of_z-to_z w x f) ∙ ap (λ (z : ℕ). of_z w (to_z w z)) e

-- the numbers of a record of any layout, read as signed and written again
module _ (L : Layout) (t : List ℕ) (f : Fields) (fa : Fits w16 f.a) (fb : Fits w16 f.b) (e : f ≡ fields_of L t) where
  same-a : f.a ≡ of_z w16 (rule_of L t).a
  same-a = kept w16 f.a (fields_of L t).a fa (ap (λ (g : Fields). g.a) e)

  same-b : f.b ≡ of_z w16 (rule_of L t).b
  same-b = kept w16 f.b (fields_of L t).b fb (ap (λ (g : Fields). g.b) e)

-- the tail of a header: the floors that it holds, written again
same-tail : (L : Layout) (s : List ℕ) → Bytes s → cond L.floors (c_of L (record_at L s 0)) 0 ≡ tail_of v2 (terms_of L s)
same-tail L s b = go L.floors
  where
    half : (n : ℕ) → number 2 (drop n (record_at L s 0)) ≡ of_z w16 (to_z w16 (number 2 (drop n (record_at L s 0))))
    half n = kept w16 (number 2 (drop n (record_at L s 0))) (number 2 (drop n (record_at L s 0)))
        (record { fits = two-bytes-small L s b 0 n }) refl

    go : (has : Bool) →
        cond has (c_of L (record_at L s 0)) 0 ≡ tail_with
        (cond has
        (record {
          lx = to_z w16 (number 2 (drop (at_c L) (record_at L s 0)));
          ly = to_z w16 (number 2 (drop (at_c L + 2) (record_at L s 0)));
        })
        (record { lx = pos 0; ly = pos 0 }))
    go true =
        sym (joined (record_at L s 0) (at_c L) (bytes-record L s b 0))
        ∙ (λ i. half (at_c L) i + 65536 * half (at_c L + 2) i)
    go false = refl

pub header-written : (L : Layout) (x s : List ℕ) (l n t : ℕ) (f : Fields) →
    Bytes s →
    Fits w16 f.a →
    Fits w16 f.b →
    f ≡ fields_of L (record_at L s 0) →
    t ≡ cond L.floors f.c 0 →
    x ≡ record_bytes v2 l 2 f.a f.b n t →
    x ≡ header_bytes v2 l (terms_of L s) n
header-written L x s l n t f b fa fb e et ex =
    let tail = et ∙ ap (λ (g : Fields). cond L.floors g.c 0) e ∙ same-tail L s b in
    ex
    ∙ (λ i. record_bytes v2 l 2
    (same-a L (record_at L s 0) f fa fb e i)
    (same-b L (record_at L s 0) f fa fb e i)
    n (tail i))
