-- The repacked form reads back: each record's fields are those that were written, and the chain goes from record to record in order.
use Prim.Native.Nat.{ℕ, zero, suc, ◌+◌, ◌*◌, ◌/◌, ◌%◌, ◌^◌, ◌≤◌, ◌<◌}
use mathlib.Core.Path.{◌≡◌, refl, sym, ap, ◌∙◌, subst}
use mathlib.Core.Bool.{Bool, true, false, cond}
use mathlib.Core.List.{List, [], ◌∷◌, ◌++◌, map, append-nil}
use mathlib.Core.Logic.{⊎_elim}
use native.Mathlib.Omega.{arith}
use native.Mathlib.Numerals.{add-one, one-add}
use native.Mathlib.Nat.{pow-suc, div-lt_iff_lt-mul, zero-mul, suc-mul, add-zero, add_comm, mul-mod_right, mul-div_right, mul-le-mul_left}
use native.Mathlib.Decide.{dec_lt}
use borrow.Author.Tests.{lt-ltb, le-ltb, ne_eqb, ltb-true}
use lib.ListN.{length, take, drop, get_or, length-append, length-map, get_or-map, get_or-append}
use lib.Seq.{take_at, drop_at, drop-drop, drop-append-add, ext_get_or, get_or_at}
use lib.Dec.{ltb, ltb→lt, lit<}
use lib.IntN.{ℤ, pos, negsuc, nat_abs}
use lib.Signed.{◌<ℤ◌}
use mir.Syntax.{w16, w32}
use mir.Val.{to_z, of_z, SFits}
use mir.Facts.{to_z-of_z, Fits-of_z}
use Rattle.lp.specs.declared.Functional.{Functional}
use Rattle.lp.specs.declared.Floors.{Floors}
use Rattle.lp.specs.declared.Terms.{Terms}
use Rattle.lp.specs.Range.{SmallFunctional}
use Rattle.records.specs.declared.Rule.{Rule}
use Rattle.records.specs.Layout.{Layout, width, at_c, Usable}
use Rattle.records.specs.Number.{number, bytes_of}
use Rattle.records.specs.Record.{record_at, link_of, kind_of, pad_of, a_of, b_of, label_of, c_of, rule_of}
use Rattle.records.specs.Header.{objective_of, floors_of, terms_of, count_of}
use Rattle.book.specs.Reading.{Entry, entry_at, label_at, memb, read_of, accepted}
use Rattle.packing.specs.Bytes.{record_bytes, header_bytes, tail_of, rule_bytes}
use Rattle.repacker.specs.Repacking.{next_of, chain_bytes, book_of, numbered, rule_in}
use Rattle.book.specs.Causes.{WrongLength, WrongVersion, WrongCount, WrongObjective, WrongTail, WrongKind, WrongSlope, WrongBound, short, long, uneven, other, differs, p-least, q-least, set, neither, a-least, b-least, low, high, Walked, header, visit}
use Rattle.repacker.proofs.Packed.{length-bytes_of, length-record_bytes, length-book_of, chain-record, next-is}
use Rattle.book.proofs.Members.{memb_snoc, absent}
use Rattle.book.proofs.Causes.{accepts_accepted}
use Rattle.book.proofs.Bounds.{SoundRule}

-- ---- a record's fields

past : (n v k : ℕ) (r t : List ℕ) → drop k r ≡ bytes_of n v ++ t → drop (k + n) r ≡ t
past n v k r t e = sym (drop-drop n k r) ∙ ap (drop n) e ∙ drop_at (bytes_of n v) t n (length-bytes_of n v)

number-written : (n v : ℕ) (t : List ℕ) → v < 256 ^ n → number n (bytes_of n v ++ t) ≡ v
unfolding number bytes_of
number-written zero v t h = omega arith
number-written (suc n) v t h =
    let q : v / 256 < 256 ^ n = (div-lt_iff_lt-mul {k = 256} {x = v} {y = 256 ^ n} (omega arith)).1 (rw pow-suc at h) in
    rw (number-written n (v / 256) t q) (omega arith)

number-clear : (n : ℕ) (t : List ℕ) → number n (bytes_of n 0 ++ t) ≡ 0
unfolding number bytes_of
number-clear zero t = refl
number-clear (suc n) t = rw (number-clear n t)

module _ (L : Layout) (l k a b m c : ℕ) where
  -- what is left of a record after each field
  after-label : List ℕ
  after-label = bytes_of 4 c

  after-b : List ℕ
  after-b = bytes_of 2 m ++ bytes_of 4 c

  after-a : List ℕ
  after-a = bytes_of 2 b ++ (bytes_of 2 m ++ bytes_of 4 c)

  after-pad : List ℕ
  after-pad = bytes_of 2 a ++ (bytes_of 2 b ++ (bytes_of 2 m ++ bytes_of 4 c))

  at-kind : drop L.link (record_bytes L l k a b m c) ≡ bytes_of 1 k ++ (bytes_of L.pad 0 ++ after-pad)
  unfolding record_bytes after-pad
  at-kind = drop_at (bytes_of L.link l) _ L.link (length-bytes_of L.link l)

  at-pad : drop (L.link + 1) (record_bytes L l k a b m c) ≡ bytes_of L.pad 0 ++ after-pad
  at-pad = past 1 k L.link (record_bytes L l k a b m c) (bytes_of L.pad 0 ++ after-pad) at-kind

  a_stands : drop (L.link + 1 + L.pad) (record_bytes L l k a b m c) ≡ after-pad
  a_stands = past L.pad 0 (L.link + 1) (record_bytes L l k a b m c) after-pad at-pad

  b_stands : drop (L.link + 1 + L.pad + 2) (record_bytes L l k a b m c) ≡ after-a
  unfolding after-pad after-a
  b_stands = past 2 a (L.link + 1 + L.pad) (record_bytes L l k a b m c) after-a a_stands

  label_stands : drop (L.link + 1 + L.pad + 4) (record_bytes L l k a b m c) ≡ after-b
  unfolding after-a after-b
  label_stands =
      let e : L.link + 1 + L.pad + 4 ≡ L.link + 1 + L.pad + 2 + 2 = omega arith in
      ap (λ n. drop n (record_bytes L l k a b m c)) e ∙ past 2 b (L.link + 1 + L.pad + 2) (record_bytes L l k a b m c) after-b b_stands

  c_stands : drop (L.link + 1 + L.pad + 6) (record_bytes L l k a b m c) ≡ bytes_of 4 c
  unfolding after-b
  c_stands =
      let e : L.link + 1 + L.pad + 6 ≡ L.link + 1 + L.pad + 4 + 2 = omega arith in
      ap (λ n. drop n (record_bytes L l k a b m c)) e
      ∙ past 2 m (L.link + 1 + L.pad + 4) (record_bytes L l k a b m c) (bytes_of 4 c) label_stands

  link-back : l < 256 ^ L.link → link_of L (record_bytes L l k a b m c) ≡ l
  unfolding record_bytes
  link-back h = number-written L.link l _ h

  kind-back : k < 256 → kind_of L (record_bytes L l k a b m c) ≡ k
  kind-back h = ap (number 1) at-kind ∙ number-written 1 k (bytes_of L.pad 0 ++ after-pad) h

  pad-back : pad_of L (record_bytes L l k a b m c) ≡ 0
  pad-back = ap (number L.pad) at-pad ∙ number-clear L.pad after-pad

  a_back : a < 65536 → a_of L (record_bytes L l k a b m c) ≡ a
  unfolding after-pad
  a_back h = ap (number 2) a_stands ∙ number-written 2 a _ h

  b-back : b < 65536 → b_of L (record_bytes L l k a b m c) ≡ b
  unfolding after-a
  b-back h = ap (number 2) b_stands ∙ number-written 2 b _ h

  label-back : m < 65536 → label_of L (record_bytes L l k a b m c) ≡ m
  unfolding after-b
  label-back h = ap (number 2) label_stands ∙ number-written 2 m _ h

  c-back : c < 4294967296 → c_of L (record_bytes L l k a b m c) ≡ c
  c-back h = ap (number 4) (c_stands ∙ sym (append-nil (bytes_of 4 c))) ∙ number-written 4 c [] h

  -- the tail as two numbers of two bytes
  low-back : number 2 (drop (L.link + 1 + L.pad + 6) (record_bytes L l k a b m c)) ≡ c % 65536
  unfolding number bytes_of
  low-back = ap (number 2) c_stands ∙ omega arith

  high-back : c < 4294967296 → number 2 (drop (L.link + 1 + L.pad + 6 + 2) (record_bytes L l k a b m c)) ≡ c / 65536
  unfolding number bytes_of
  high-back h =
      ap (number 2) (sym (drop-drop 2 (L.link + 1 + L.pad + 6) (record_bytes L l k a b m c)) ∙ ap (drop 2) c_stands)
      ∙ omega arith

-- ---- signed numbers

sixteen-fits : (z : ℤ) → nat_abs z ≤ 32767 → SFits w16 z
sixteen-fits (pos n) h = record { sfits = omega arith }
sixteen-fits (negsuc n) h = record { sfits = omega arith }

thirty_two-fits : (z : ℤ) → nat_abs z ≤ 1000000000 → SFits w32 z
thirty_two-fits (pos n) h = record { sfits = omega arith }
thirty_two-fits (negsuc n) h = record { sfits = omega arith }

-- ---- a rule

module _ (L : Layout) (next : ℕ) (r : Rule) (sound : SoundRule r) (label : r.label < 65536) where
  kind-small : r.kind < 256
  kind-small = ⊎_elim (λ e. omega arith) (λ e. omega arith) sound.kind

  rule-back : rule_of L (rule_bytes L next r) ≡ r
  rule-back =
      let fa = sixteen-fits r.a sound.a in
      let fb = sixteen-fits r.b sound.b in
      let fc = thirty_two-fits r.c sound.c in
      let pk = kind-back L next r.kind (of_z w16 r.a) (of_z w16 r.b) r.label (of_z w32 r.c) kind-small in
      let pa =
      ap (to_z w16) (a_back L next r.kind (of_z w16 r.a) (of_z w16 r.b) r.label (of_z w32 r.c) (Fits-of_z fa).fits)
      ∙ to_z-of_z fa in
      let pb =
      ap (to_z w16) (b-back L next r.kind (of_z w16 r.a) (of_z w16 r.b) r.label (of_z w32 r.c) (Fits-of_z fb).fits)
      ∙ to_z-of_z fb in
      let pc =
      ap (to_z w32) (c-back L next r.kind (of_z w16 r.a) (of_z w16 r.b) r.label (of_z w32 r.c) (Fits-of_z fc).fits)
      ∙ to_z-of_z fc in
      let pl = label-back L next r.kind (of_z w16 r.a) (of_z w16 r.b) r.label (of_z w32 r.c) label in
      λ i. record { kind = pk i; a = pa i; b = pb i; c = pc i; label = pl i }

  not_least : (z : ℤ) → nat_abs z ≤ 32767 → z ≡ negsuc 32767 → ⊥
  not_least z h e = let n = ap nat_abs e in omega arith

  rule-kind : WrongKind L (rule_bytes L next r) → ⊥
  rule-kind (neither one two) =
      ⊎_elim (λ e. one (ap (λ (x : Rule). x.kind) rule-back ∙ e)) (λ e. two (ap (λ (x : Rule). x.kind) rule-back ∙ e)) sound.kind
  rule-kind (WrongKind.padding h) = h (pad-back L next r.kind (of_z w16 r.a) (of_z w16 r.b) r.label (of_z w32 r.c))

  rule-slope : WrongSlope L (rule_bytes L next r) → ⊥
  rule-slope (a-least e) = not_least r.a sound.a (sym (ap (λ (x : Rule). x.a) rule-back) ∙ e)
  rule-slope (b-least e) = not_least r.b sound.b (sym (ap (λ (x : Rule). x.b) rule-back) ∙ e)

  not_low : (z : ℤ) → nat_abs z ≤ 1000000000 → z <ℤ negsuc 999999999 → ⊥
  not_low (pos n) h l = l.lt
  not_low (negsuc n) h l = let k = ltb→lt 999999999 n l.lt in omega arith

  not-high : (z : ℤ) → nat_abs z ≤ 1000000000 → pos 1000000000 <ℤ z → ⊥
  not-high (pos n) h l = let k = ltb→lt 1000000000 n l.lt in omega arith
  not-high (negsuc n) h l = l.lt

  rule-bound : WrongBound L (rule_bytes L next r) → ⊥
  rule-bound (low l) = not_low r.c sound.c (subst (λ (x : Rule). x.c <ℤ negsuc 999999999) rule-back l)
  rule-bound (high l) = not-high r.c sound.c (subst (λ (x : Rule). pos 1000000000 <ℤ x.c) rule-back l)

-- ---- the records 1 to j

up_to : ℕ → List ℕ
up_to zero = []
up_to (suc j) = up_to j ++ (suc j ∷ [])

above : (i j : ℕ) → j < i → memb i (up_to j) ≡ false
unfolding up_to memb
above i zero h = refl
above i (suc j) h = memb_snoc i (suc j) (up_to j) ∙ rw (above i j (omega arith), ne_eqb i (suc j) (omega arith))

up_to-length : (j : ℕ) → length (up_to j) ≡ j
unfolding up_to
up_to-length zero = refl
up_to-length (suc j) = length-append (up_to j) (suc j ∷ []) ∙ rw (up_to-length j) (add-one j)

up_to-at : (j k : ℕ) → k < j → get_or (up_to j) k 0 ≡ suc k
unfolding up_to
up_to-at zero k h = absurd (let z : ⊥ = omega arith in z)
up_to-at (suc j) k h = go (dec_lt k j) (up_to-at j k)
  where
    go : Dec (k < j) → (k < j → get_or (up_to j) k 0 ≡ suc k) → get_or (up_to j ++ (suc j ∷ [])) k 0 ≡ suc k
    go (yes l) ih = get_or-append (up_to j) (suc j ∷ []) 0 k (rw (up_to-length j) l) ∙ ih l
    go (no n) ih =
        let e : k ≡ j = omega arith in
        get_or_at (up_to j) (suc j) [] 0 k (up_to-length j ∙ sym e) ∙ ap suc (sym e)

pub numbered-length : (k : ℕ) (rs : List Rule) → length (numbered k rs) ≡ length rs
numbered-length k [] = refl
numbered-length k (r ∷ rs) = ap suc (numbered-length (suc k) rs)

numbered-at : (k : ℕ) (rs : List Rule) (j : ℕ) (d : Entry) →
    j < length rs →
    get_or (numbered k rs) j d ≡ record { index = k + j; rule = get_or rs j d.rule }
numbered-at k [] j d h = absurd (let z : ⊥ = omega arith in z)
numbered-at k (r ∷ rs) zero d h = λ i. record { index = sym (add-zero k) i; rule = r }
numbered-at k (r ∷ rs) (suc j) d h =
    let e : suc k + j ≡ k + suc j = omega arith in
    numbered-at (suc k) rs j d (omega arith) ∙ (λ i. record { index = e i; rule = get_or rs j d.rule })

pub numbered-rules : (k : ℕ) (rs : List Rule) → map rule_in (numbered k rs) ≡ rs
numbered-rules k [] = refl
numbered-rules k (r ∷ rs) = ap (λ l. r ∷ l) (numbered-rules (suc k) rs)

-- ---- the book

-- floors that a header's tail can hold: of sixteen bits where it has them, else zero
abbrev pub Holds : Bool → Floors → Type 0
Holds true f = SFits w16 f.lx × SFits w16 f.ly
Holds false f = f ≡ record { lx = pos 0; ly = pos 0 }

module _
    (L : Layout) (u : Usable L) (o : Terms) (rs : List Rule) (room : length rs < L.records)
    (goal : SmallFunctional o.objective) (held : Holds L.floors o.floors)
    (lawful : (j : ℕ) (d : Rule) → j < length rs → SoundRule (get_or rs j d) × ((get_or rs j d).label < 65536))
    (apart : (j k : ℕ) (d : Rule) → j < k → k < length rs → (get_or rs j d).label ≡ (get_or rs k d).label → ⊥) where
  book : List ℕ
  book = book_of L o rs

  book-length : length book ≡ width L * (length rs + 1)
  unfolding book
  book-length = length-book_of L o rs

  head : record_at L book 0 ≡ header_bytes L (next_of 0 rs) o (length rs)
  unfolding book book_of record_at
  head = rw zero-mul (take_at (header_bytes L (next_of 0 rs) o (length rs)) (chain_bytes L 1 rs) (width L) (length-record_bytes L _ _ _ _ _ _))

  body : (j : ℕ) (d : Rule) → j < length rs → record_at L book (suc j) ≡ rule_bytes L (next_of (suc j) (drop (suc j) rs)) (get_or rs j d)
  unfolding book book_of record_at
  body j d h =
      let H = header_bytes L (next_of 0 rs) o (length rs) in
      let C = chain_bytes L 1 rs in
      let e : suc j * width L ≡ length H + j * width L =
      suc-mul j (width L) ∙ add_comm (j * width L) (width L) ∙ ap (λ n. n + j * width L) (sym (length-record_bytes L _ _ _ _ _ _)) in
      ap (λ n. take (width L) (drop n (H ++ C))) e
      ∙ ap (take (width L)) (drop-append-add H C (j * width L))
      ∙ chain-record L 1 rs j d h
      ∙ ap (λ n. rule_bytes L (next_of n (drop (suc j) rs)) (get_or rs j d)) (one-add j)

  -- the links go from each record to the next
  next_fits : (j : ℕ) → j ≤ length rs → next_of j (drop j rs) < 256 ^ L.link
  next_fits j h = rw (next-is j j rs) (go (ltb j (length rs)) refl)
    where
      go : (b : Bool) → ltb j (length rs) ≡ b → cond b (suc j) 0 < 256 ^ L.link
      go true e = omega (arith, ltb-true j (length rs) e, u.links)
      go false e = omega (arith, u.links)

  link_at : (j : ℕ) → j ≤ length rs → link_of L (record_at L book j) ≡ cond (ltb j (length rs)) (suc j) 0
  link_at zero h = ap (link_of L) head ∙ link-back L _ _ _ _ _ _ (next_fits 0 h) ∙ next-is 0 0 rs
  link_at (suc j) h =
      let d : Rule = record { kind = 0; a = pos 0; b = pos 0; c = pos 0; label = 0 } in
      ap (link_of L) (body j d h) ∙ link-back L _ _ _ _ _ _ (next_fits (suc j) h) ∙ next-is (suc j) (suc j) rs

  -- ---- the header has no cause

  p-fits : SFits w16 o.objective.p
  p-fits = sixteen-fits o.objective.p goal.p-small.small

  q-fits : SFits w16 o.objective.q
  q-fits = sixteen-fits o.objective.q goal.q-small.small

  count-is : count_of L book ≡ length rs
  count-is = ap (label_of L) head ∙ label-back L _ _ _ _ _ _ (omega (arith, u.counts))

  objective-is : objective_of L book ≡ o.objective
  objective-is =
      let pp = ap (to_z w16) (ap (a_of L) head ∙ a_back L _ _ _ _ _ _ (Fits-of_z p-fits).fits) ∙ to_z-of_z p-fits in
      let pq = ap (to_z w16) (ap (b_of L) head ∙ b-back L _ _ _ _ _ _ (Fits-of_z q-fits).fits) ∙ to_z-of_z q-fits in
      λ i. record { p = pp i; q = pq i }

  -- the tail, by whether it has the floors
  tail-small : tail_of L o < 4294967296
  tail-small = go L.floors held
    where
      go : (b : Bool) → Holds b o.floors → cond b (of_z w16 o.floors.lx + 65536 * of_z w16 o.floors.ly) 0 < 4294967296
      go true h = omega (arith, (Fits-of_z h.0).fits, (Fits-of_z h.1).fits)
      go false h = lit< tt

  tail-is : c_of L (record_at L book 0) ≡ tail_of L o
  tail-is = ap (c_of L) head ∙ c-back L _ _ _ _ _ _ tail-small

  low-is : number 2 (drop (at_c L) (record_at L book 0)) ≡ tail_of L o % 65536
  low-is = ap (λ r. number 2 (drop (at_c L) r)) head ∙ low-back L _ _ _ _ _ _

  high_is : number 2 (drop (at_c L + 2) (record_at L book 0)) ≡ tail_of L o / 65536
  high_is = ap (λ r. number 2 (drop (at_c L + 2) r)) head ∙ high-back L _ _ _ _ _ _ tail-small

  floors-is : floors_of L book ≡ o.floors
  floors-is = go L.floors held low-is high_is
    where
      go : (b : Bool) → Holds b o.floors →
          {x y : ℕ} →
          x ≡ cond b (of_z w16 o.floors.lx + 65536 * of_z w16 o.floors.ly) 0 % 65536 →
          y ≡ cond b (of_z w16 o.floors.lx + 65536 * of_z w16 o.floors.ly) 0 / 65536 →
          ◌≡◌ {A = Floors} (cond b (record { lx = to_z w16 x; ly = to_z w16 y }) (record { lx = pos 0; ly = pos 0 })) o.floors
      go true h {x} {y} ex ey =
          let px : x ≡ of_z w16 o.floors.lx = omega (arith, (Fits-of_z h.0).fits) in
          let py : y ≡ of_z w16 o.floors.ly = omega (arith, (Fits-of_z h.0).fits) in
          let fx = ap (to_z w16) px ∙ to_z-of_z h.0 in
          let fy = ap (to_z w16) py ∙ to_z-of_z h.1 in
          λ i. record { lx = fx i; ly = fy i }
      go false h ex ey = sym h

  terms-is : terms_of L book ≡ o
  terms-is = λ i. record { objective = objective-is i; floors = floors-is i }

  no_length : WrongLength L book → ⊥
  no_length (short h) =
      let g : width L * 1 ≤ width L * (length rs + 1) = mul-le-mul_left (width L) (omega arith) in
      omega (arith, book-length)
  no_length (long h) =
      let g : width L * (length rs + 1) ≤ width L * L.records = mul-le-mul_left (width L) (omega arith) in
      omega (arith, book-length)
  no_length (uneven h) = h (ap (λ n. n % width L) book-length ∙ mul-mod_right (width L) (length rs + 1))

  no_version : WrongVersion L book → ⊥
  no_version (other h) = h (ap (kind_of L) head ∙ kind-back L _ _ _ _ _ _ u.versions)
  no_version (WrongVersion.padding h) = h (ap (pad_of L) head ∙ pad-back L _ _ _ _ _ _)

  no_count : WrongCount L book → ⊥
  no_count (differs h) =
      let n : length book / width L ≡ length rs + 1 = ap (λ n. n / width L) book-length ∙ mul-div_right (length rs + 1) (omega arith) in
      h (count-is ∙ omega arith)

  no_objective : WrongObjective L book → ⊥
  no_objective (p-least e) =
      let n = ap nat_abs (sym (ap (λ (f : Functional). f.p) objective-is) ∙ e) in omega (arith, goal.p-small.small)
  no_objective (q-least e) =
      let n = ap nat_abs (sym (ap (λ (f : Functional). f.q) objective-is) ∙ e) in omega (arith, goal.q-small.small)

  no_tail : WrongTail L book → ⊥
  no_tail (set f h) = h (tail-is ∙ rw f)

  -- ---- the chain

  plain : Rule
  plain = record { kind = 0; a = pos 0; b = pos 0; c = pos 0; label = 0 }

  label_is : (j : ℕ) → j < length rs → label_at L book (suc j) ≡ (get_or rs j plain).label
  label_is j h =
      let good = lawful j plain h in
      ap (λ (r : Rule). r.label) (ap (rule_of L) (body j plain h) ∙ rule-back L _ (get_or rs j plain) good.0 good.1)

  label-new : (j : ℕ) → j < length rs → memb (label_at L book (suc j)) (map (label_at L book) (up_to j)) ≡ false
  label-new j h = absent (label_at L book) (up_to j) (label_at L book (suc j)) go
    where
      go : (k : ℕ) → k < length (up_to j) → label_at L book (get_or (up_to j) k 0) ≡ label_at L book (suc j) → ⊥
      go k g e =
          let l : k < j = rw (up_to-length j) at g in
          apart k j plain l h (sym (ap (label_at L book) (up_to-at j k l) ∙ label_is k (omega arith)) ∙ e ∙ label_is j h)

  walked : (j : ℕ) → j ≤ length rs → Walked L book (up_to j) j
  unfolding up_to
  walked zero h = header no_length no_version no_count no_objective no_tail
  walked (suc j) h =
      let next : suc j ≡ link_of L (record_at L book j) = sym (link_at j (omega arith) ∙ rw (lt-ltb j (length rs) h)) in
      let good = lawful j plain h in
      let r = body j plain h in
      visit (walked j (omega arith)) (suc j) next (omega arith) (omega (arith, count-is)) (above (suc j) j (omega arith))
      (λ w. rule-kind L (next_of (suc j) (drop (suc j) rs)) (get_or rs j plain) good.0 good.1 (subst (WrongKind L) r w))
      (λ w. rule-slope L (next_of (suc j) (drop (suc j) rs)) (get_or rs j plain) good.0 good.1 (subst (WrongSlope L) r w))
      (λ w. rule-bound L (next_of (suc j) (drop (suc j) rs)) (get_or rs j plain) good.0 good.1 (subst (WrongBound L) r w))
      (label-new j h)

  entries : numbered 1 rs ≡ map (entry_at L book) (up_to (length rs))
  entries =
      ext_get_or (entry_at L book 0) (numbered 1 rs) (map (entry_at L book) (up_to (length rs)))
      (numbered-length 1 rs ∙ sym (length-map (up_to (length rs)) (entry_at L book) ∙ up_to-length (length rs)))
      go
    where
      go : (i : ℕ) →
          i < length (numbered 1 rs) →
          get_or (numbered 1 rs) i (entry_at L book 0) ≡ get_or (map (entry_at L book) (up_to (length rs))) i (entry_at L book 0)
      go i h =
          let k : i < length rs = rw numbered-length at h in
          let d = (entry_at L book 0).rule in
          let rule : get_or rs i d ≡ rule_of L (record_at L book (suc i)) =
          sym (ap (rule_of L) (body i d k) ∙ rule-back L _ (get_or rs i d) (lawful i d k).0 (lawful i d k).1) in
          numbered-at 1 rs i (entry_at L book 0) k
          ∙ (λ j. record { index = one-add i j; rule = rule j })
          ∙ sym (get_or-map (entry_at L book) (up_to (length rs)) i 0 ∙ ap (entry_at L book) (up_to-at (length rs) i k))

  -- the repacked form is accepted, and reads as its terms and its rules
  pub book-reads : read_of L (book_of L o rs) ≡ accepted o (numbered 1 rs)
  unfolding book
  book-reads =
      accepts_accepted L book
      (record {
        done = up_to (length rs);
        at = length rs;
        walked = walked (length rs) (omega arith);
        ends = link_at (length rs) (omega arith) ∙ rw (le-ltb (length rs) (length rs) (omega arith));
        terms = sym terms-is;
        entries = entries;
      })
