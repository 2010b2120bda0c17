-- The laws of repacking: the repacked form of an accepted book, of whichever version, is accepted by version 2 and reads as the same terms
-- and rules; it is its own repacked form; and books that read alike have one repacked form. They ask of a book's layout only that version 2
-- can hold what it holds, which is so of both versions.
use Rattle.std.specs.Prelude.{Result, Ok, Err}
use Prim.Native.Nat.{ℕ, zero, suc, ◌+◌, ◌*◌, ◌≤◌, ◌<◌}
use mathlib.Core.Path.{◌≡◌, refl, sym, ap, ◌∙◌, subst⁻¹}
use mathlib.Core.Bool.{Bool, true, false, cond}
use mathlib.Core.List.{List, [], ◌∷◌, ◌++◌, map}
use native.Mathlib.Omega.{arith}
use borrow.Author.Tests.{lt-ltb, le-ltb, ltb-false, ltb-true}
use lib.ListN.{length, take, drop, get_or, length-append, length-map}
use lib.Seq.{take_at}
use lib.Dec.{ltb, lit≤, lit<}
use lib.IntN.{pos}
use mir.Syntax.{w16}
use mir.Val.{to_z}
use mir.ValLaws.{to_z-Fits}
use Rattle.lp.specs.declared.Terms.{Terms}
use Rattle.records.specs.declared.Rule.{Rule}
use Rattle.records.specs.declared.Version.{Version}
use Rattle.records.specs.declared.Version.TheVariants.{One, Two}
use Rattle.records.specs.Layout.{Layout, width, at_c, v1, v2, layout_of, Usable}
use Rattle.records.specs.Number.{number, Bytes}
use Rattle.records.specs.Record.{record_at, rule_of}
use Rattle.book.specs.Reading.{Reading, refused, accepted, Entry, records_of, read_of}
use Rattle.repacker.specs.Repacking.{Packing, book_of, declined, packed, rule_in, numbered, pack_of, repack_of, Carried, ReadAlike}
use Rattle.answers.specs.declared.Refusal.{Refusal}
use Rattle.repacker.specs.Promises.{Repacks, repacked_of, output_of}
use Rattle.book.proofs.Causes.{cause-number, refusal_applies, acceptance_means}
use Rattle.records.proofs.Small.{label_small, two-bytes-small}
use Rattle.book.proofs.Bounds.{chain-count, count_room, SoundRule, terms-small, accepted-entries, entry-sound, label-distinct}
use Rattle.repacker.proofs.Output.{rules-of}
use Rattle.repacker.proofs.Readback.{Holds, book-reads, numbered-rules, numbered-length}
use Rattle.repacker.proofs.Packed.{length-book_of}

pub usable_v1 : Usable v1
usable_v1 = record { links = lit≤ tt; counts = lit≤ tt; versions = lit< tt }

pub usable_v2 : Usable v2
usable_v2 = record { links = lit≤ tt; counts = lit≤ tt; versions = lit< tt }

-- what a book of either version holds, one of version 2 can
pub carried : (v : Version) → Carried (layout_of v) v2
carried One = record { records = lit≤ tt; floors = λ e. refl }
carried Two = record { records = lit≤ tt; floors = λ e. refl }

-- ---- from a book to its repacked form

map_at : (f : ℕ → Rule) (l : List ℕ) (j : ℕ) (d : Rule) → j < length l → get_or (map f l) j d ≡ f (get_or l j 0)
map_at f [] j d h = absurd (let z : ⊥ = omega arith in z)
map_at f (x ∷ l) zero d h = refl
map_at f (x ∷ l) (suc j) d h = map_at f l j d (omega arith)

module _
    (L W : Layout) (c : Carried L W) (u : Usable W) (s : List ℕ) (b : Bytes s)
    {t : Terms} {es : List Entry} (e : read_of L s ≡ accepted t es) where
  at_place : (j : ℕ) (d : Rule) → j < length (map rule_in es) → get_or (map rule_in es) j d ≡ rule_of L (record_at L s (get_or (records_of es) j 0))
  at_place j d h =
      let k : j < length (records_of es) = rw length-map (rw length-map at h) in
      ap (λ l. get_or l j d) (ap (map rule_in) (accepted-entries L s e) ∙ rules-of L s (records_of es))
      ∙ map_at (λ i. rule_of L (record_at L s i)) (records_of es) j d k

  all-lawful : (j : ℕ) (d : Rule) →
      j < length (map rule_in es) →
      SoundRule (get_or (map rule_in es) j d) × ((get_or (map rule_in es) j d).label < 65536)
  all-lawful j d h =
      let k : j < length es = rw length-map at h in
      rw (at_place j d h) (entry-sound L s e j k, label_small L s b (get_or (records_of es) j 0))

  all_apart : (j k : ℕ) (d : Rule) →
      j < k →
      k < length (map rule_in es) →
      (get_or (map rule_in es) j d).label ≡ (get_or (map rule_in es) k d).label →
      ⊥
  all_apart j k d g h p =
      label-distinct L s e j k g (rw length-map at h)
      (sym (ap (λ (r : Rule). r.label) (at_place j d (omega arith))) ∙ p ∙ ap (λ (r : Rule). r.label) (at_place k d h))

  -- the floors that were read are ones that the other layout's header can hold
  floors-held : Holds W.floors t.floors
  floors-held =
      subst⁻¹ (λ (x : Terms). Holds W.floors x.floors) (acceptance_means L s e).terms
      (go L.floors W.floors c.floors _ _ (two_fits (at_c L)) (two_fits (at_c L + 2)))
    where
      two_fits : (n : ℕ) → number 2 (drop n (record_at L s 0)) < 65536
      two_fits n = two-bytes-small L s b 0 n

      go : (f g : Bool) →
          (f ≡ true → g ≡ true) →
          (m n : ℕ) →
          m < 65536 →
          n < 65536 →
          Holds g (cond f (record { lx = to_z w16 m; ly = to_z w16 n }) (record { lx = pos 0; ly = pos 0 }))
      go true true i m n h k = (to_z-Fits w16 m (record { fits = h }), to_z-Fits w16 n (record { fits = k }))
      go true false i m n h k = absurd (let clash : false ≡ true = i refl in let n : ◌≡◌ {A = ℕ} 0 1 = cc in let z : ⊥ = omega arith in z)
      go false true i m n h k = (record { sfits = omega arith }, record { sfits = omega arith })
      go false false i m n h k = refl

  -- the repacked form is accepted, with the same terms and the same rules, labels and kinds in the same order
  pub packed-reads : read_of W (book_of W t (map rule_in es)) ≡ accepted t (numbered 1 (map rule_in es))
  packed-reads =
      let room : length (map rule_in es) < W.records =
      omega (arith, length-map es rule_in, chain-count L s e, count_room L s e, c.records) in
      book-reads W u t (map rule_in es) room (terms-small L s e).objective-small floors-held all-lawful all_apart

-- ---- what repacking says

-- an accepted book whose repacked form has no room
pub record Crowded (L : Layout) (x : Reading) (room : ℕ) : Type 0 where
  pub terms : Terms
  pub entries : List Entry
  pub reads : x ≡ accepted terms entries
  pub short : room < width L * (length entries + 1)

-- bytes come of an accepted book with room for them, and are its repacked form
record Packs (L : Layout) (x : Reading) (room : ℕ) (bs : List ℕ) : Type 0 where
  terms : Terms
  entries : List Entry
  reads : x ≡ accepted terms entries
  fits : width L * (length entries + 1) ≤ room
  form : bs ≡ book_of L terms (map rule_in entries)

packed-from : (L : Layout) (x : Reading) (room : ℕ) (bs : List ℕ) → pack_of L x room ≡ packed bs → Packs L x room bs
unfolding pack_of
packed-from L (refused k i) room bs e = absurd (let n : ◌≡◌ {A = ℕ} 0 1 = cc in let z : ⊥ = omega arith in z)
packed-from L (accepted o es) room bs e = go (ltb room (width L * (length es + 1))) refl e
  where
    go : (t : Bool) →
        ltb room (width L * (length es + 1)) ≡ t →
        cond t (declined 11 0) (packed (book_of L o (map rule_in es))) ≡ packed bs →
        Packs L (accepted o es) room bs
    go true h e = absurd (let n : ◌≡◌ {A = ℕ} 0 1 = cc in let z : ⊥ = omega arith in z)
    go false h e =
        record { terms = o; entries = es; reads = refl; fits = ltb-false room (width L * (length es + 1)) h; form = cc }

packs-whole : (L : Layout) (o : Terms) (es : List Entry) (room : ℕ) →
    width L * (length es + 1) ≤ room →
    pack_of L (accepted o es) room ≡ packed (book_of L o (map rule_in es))
unfolding pack_of
packs-whole L o es room h = rw (le-ltb room (width L * (length es + 1)) h)

module _
    (L : Layout) (c : Carried L v2) (s : List ℕ) (b : Bytes s) (room : ℕ) (bs : List ℕ)
    (e : repack_of L s room ≡ packed bs) where
  from : Packs v2 (read_of L s) room bs
  from = packed-from v2 (read_of L s) room bs e

  back : read_of v2 bs ≡ accepted from.terms (numbered 1 (map rule_in from.entries))
  back = ap (read_of v2) from.form ∙ packed-reads L v2 c usable_v2 s b from.reads

  -- the repacked bytes are accepted, and read as the same terms and the same rules, labels and kinds in the same order
  pub repacked_alike : ReadAlike (read_of L s) (read_of v2 bs)
  repacked_alike =
      record {
        terms = from.terms;
        first = from.entries;
        second = numbered 1 (map rule_in from.entries);
        one = from.reads;
        two = back;
        rules = sym (numbered-rules 1 (map rule_in from.entries));
      }

  -- repacking them again gives the same bytes
  pub repacked-again : (more : ℕ) → length bs ≤ more → repack_of v2 bs more ≡ packed bs
  repacked-again more h =
      let rs = map rule_in from.entries in
      let long : width v2 * (length (numbered 1 rs) + 1) ≡ length bs =
      sym (ap length from.form ∙ length-book_of v2 from.terms rs ∙ ap (λ n. width v2 * (n + 1)) (sym (numbered-length 1 rs))) in
      ap (λ x. pack_of v2 x more) back
      ∙ packs-whole v2 from.terms (numbered 1 rs) more (omega arith)
      ∙ ap packed (ap (book_of v2 from.terms) (numbered-rules 1 rs) ∙ sym from.form)

module _ (L : Layout) (s : List ℕ) (room : ℕ) where
  -- the bytes are as many as the format says
  pub repacked-length : {o : Terms} {es : List Entry} {bs : List ℕ} →
      read_of L s ≡ accepted o es →
      repack_of L s room ≡ packed bs →
      length bs ≡ width v2 * (length es + 1)
  repacked-length {es = es} {bs = bs} r e =
      let p = packed-from v2 (read_of L s) room bs e in
      let same : p.entries ≡ es = let q = p.reads in cc in
      ap length p.form ∙ length-book_of v2 p.terms (map rule_in p.entries)
      ∙ ap (λ n. width v2 * (n + 1)) (length-map p.entries rule_in) ∙ ap (λ l. width v2 * (length l + 1)) same

  -- 11 is said of an accepted book without room, and of no other
  pub no_room : {o : Terms} {es : List Entry} →
      read_of L s ≡ accepted o es →
      room < width v2 * (length es + 1) →
      repack_of L s room ≡ declined 11 0
  unfolding pack_of
  no_room {es = es} r h = rw (r, lt-ltb room (width v2 * (length es + 1)) h)

  pub eleven-last : {i : ℕ} → repack_of L s room ≡ declined 11 i → Crowded v2 (read_of L s) room
  unfolding pack_of
  eleven-last {i} e = go (read_of L s) refl e
    where
      go : (x : Reading) → read_of L s ≡ x → pack_of v2 x room ≡ declined 11 i → Crowded v2 (read_of L s) room
      go (refused k j) p e = absurd ((cause-number (refusal_applies L s p)).1 cc)
      go (accepted o es) p e = pick (ltb room (width v2 * (length es + 1))) refl e
        where
          pick : (t : Bool) →
              ltb room (width v2 * (length es + 1)) ≡ t →
              cond t (declined 11 0) (packed (book_of v2 o (map rule_in es))) ≡ declined 11 i →
              Crowded v2 (read_of L s) room
          pick true h e = record { terms = o; entries = es; reads = p; short = ltb-true room (width v2 * (length es + 1)) h }
          pick false h e = absurd (let n : ◌≡◌ {A = ℕ} 0 1 = cc in let z : ⊥ = omega arith in z)

-- no refusal of the repacker has the number 0
pub declined-number : (L : Layout) (s : List ℕ) (room : ℕ) {k i : ℕ} → repack_of L s room ≡ declined k i → 1 ≤ k
unfolding pack_of
declined-number L s room {k} {i} e = go (read_of L s) refl e
  where
    go : (x : Reading) → read_of L s ≡ x → pack_of v2 x room ≡ declined k i → 1 ≤ k
    go (refused n j) p e = let same : n ≡ k = cc in omega (arith, cause-number (refusal_applies L s p))
    go (accepted o es) p e = pick (ltb room (width v2 * (length es + 1))) e
      where
        pick : (t : Bool) → cond t (declined 11 0) (packed (book_of v2 o (map rule_in es))) ≡ declined k i → 1 ≤ k
        pick true e = let same : 11 ≡ k = cc in omega arith
        pick false e = absurd (let n : ◌≡◌ {A = ℕ} 0 1 = cc in let z : ⊥ = omega arith in z)

-- books that read alike, of the same version or not, repack to the same bytes
pub alike_repacked : (L L' : Layout) (s t : List ℕ) (room : ℕ) →
    ReadAlike (read_of L s) (read_of L' t) →
    repack_of L s room ≡ repack_of L' t room
unfolding pack_of
alike_repacked L L' s t room a =
    let n : length a.first ≡ length a.second =
    sym (length-map a.first rule_in) ∙ ap length a.rules ∙ length-map a.second rule_in in
    rw (a.one, a.two, a.rules, n)

-- ---- what the repacker promises, read by its caller

ok_apart : {x : Refusal} {n : ℕ} → ◌≡◌ {A = Result ℕ Refusal} (Err x) (Ok n) → ⊥
ok_apart e = cc

same_count : {n m : ℕ} → ◌≡◌ {A = Result ℕ Refusal} (Ok n) (Ok m) → n ≡ m
same_count e = cc

module _ {L : Layout} {s out after : List ℕ} {r : Result ℕ Refusal} (p : Repacks L s out r after) where
  -- nothing is turned back: the filled bytes are the repacked form, and what follows them is as it was
  pub record Filled (n : ℕ) : Type 0 where
    pub bytes : List ℕ
    pub packs : repack_of L s (length out) ≡ packed bytes
    pub filled : n ≡ length bytes
    pub output : after ≡ bytes ++ drop (length bytes) out

  module _ {n : ℕ} (z : r ≡ Ok n) where
    pub packed-filled : Filled n
    packed-filled = go (repack_of L s (length out)) refl
      where
        go : (x : Packing) → repack_of L s (length out) ≡ x → Filled n
        go (declined k i) e = absurd (ok_apart (sym (p.answer ∙ ap repacked_of e) ∙ z))
        go (packed bs) e =
            record {
              bytes = bs;
              packs = e;
              filled = same_count (sym z ∙ p.answer ∙ ap repacked_of e);
              output = p.output ∙ ap (λ (x : Packing). output_of x out) e;
            }

    -- the filled bytes of the output read as the same terms and rules
    pub filled_alike : Carried L v2 → Bytes s → ReadAlike (read_of L s) (read_of v2 (take n after))
    filled_alike c b =
        let f = packed-filled in
        let front : take n after ≡ f.bytes =
        (λ j. take (f.filled j) (f.output j)) ∙ take_at f.bytes (drop (length f.bytes) out) (length f.bytes) refl in
        rw front (repacked_alike L c s b (length out) f.bytes f.packs)

    -- they are the output's
    pub filled_within : n ≤ length after
    filled_within =
        let f = packed-filled in
        omega (arith, f.filled, ap (λ (l : List ℕ). length l) f.output, length-append f.bytes (drop (length f.bytes) out))

  -- a refusal leaves the output as it was
  pub declined-kept : {x : Refusal} → r ≡ Err x → after ≡ out
  declined-kept {x} z = go (repack_of L s (length out)) refl
    where
      go : (y : Packing) → repack_of L s (length out) ≡ y → after ≡ out
      go (declined k i) e = p.output ∙ ap (λ (y : Packing). output_of y out) e
      go (packed bs) e = absurd (ok_apart (sym z ∙ p.answer ∙ ap repacked_of e))
