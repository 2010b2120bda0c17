-- Spare records do not matter: two books of one length that agree on the header and on the records of the chain read alike.
use Prim.Native.Nat.{ℕ, zero, suc}
use mathlib.Core.Path.{◌≡◌, refl, sym, ap, ◌∙◌}
use mathlib.Core.List.{List, [], ◌∷◌, ◌++◌, map}
use lib.ListN.{length}
use Rattle.records.specs.Layout.{Layout}
use Rattle.records.specs.Record.{record_at, link_of, rule_of}
use Rattle.records.specs.Header.{header_cause, header_fault}
use Rattle.book.specs.Reading.{Entry, Ending, entry_at, label_at, follow, walk, end_of, read_of}
use Rattle.book.specs.Spare.{OnChain, header, link}
use Rattle.book.proofs.Members.{map_snoc}
use Rattle.book.proofs.Links.{walk-once}

labels_in : (L : Layout) (s done : List ℕ) → map (λ (e : Entry). e.rule.label) (map (entry_at L s) done) ≡ map (label_at L s) done
labels_in L s [] = refl
labels_in L s (i ∷ done) = ap (λ l. label_at L s i ∷ l) (labels_in L s done)

module _ (L : Layout) (s t : List ℕ) (long : length s ≡ length t) (agree : (i : ℕ) → OnChain L s i → record_at L s i ≡ record_at L t i) where
  same-fault : header_fault L s ≡ header_fault L t
  unfolding header_fault header_cause
  same-fault = let r = agree 0 header in rw (long, r)

  same-follow : (done : List ℕ) (at i : ℕ) (x y : Ending) →
      OnChain L s i →
      map (entry_at L s) done ≡ map (entry_at L t) done →
      x ≡ y →
      follow L s done at i x ≡ follow L t done at i y
  unfolding follow
  same-follow done at i x y c m p =
      let r = agree 0 header in
      let q = agree i c in
      let l : map (label_at L s) done ≡ map (label_at L t) done =
      sym (labels_in L s done) ∙ ap (map (λ (e : Entry). e.rule.label)) m ∙ labels_in L t done in
      rw (r, q, m, l, p)

  same-walk : (links : ℕ) (done : List ℕ) (at : ℕ) →
      OnChain L s at →
      map (entry_at L s) done ≡ map (entry_at L t) done →
      walk L s links done at ≡ walk L t links done at
  unfolding walk
  same-walk zero done at c m = refl
  same-walk (suc links) done at c m =
      let i = link_of L (record_at L s at) in
      let e : i ≡ link_of L (record_at L t at) = ap (link_of L) (agree at c) in
      let one : entry_at L s i ≡ entry_at L t i = ap (λ r. record { index = i; rule = rule_of L r }) (agree i (link c)) in
      let more : map (entry_at L s) (done ++ (i ∷ [])) ≡ map (entry_at L t) (done ++ (i ∷ [])) =
      map_snoc (entry_at L s) done i ∙ (λ j. m j ++ (one j ∷ [])) ∙ sym (map_snoc (entry_at L t) done i) in
      walk-once L s links done at i refl
      ∙ same-follow done at i (walk L s links (done ++ (i ∷ [])) i) (walk L t links (done ++ (i ∷ [])) i) (link c) m
      (same-walk links (done ++ (i ∷ [])) i (link c) more)
      ∙ sym (walk-once L t links done at i e)

  same_end : (end_of L s).reading ≡ (end_of L t).reading
  unfolding end_of
  same_end = let f = same-fault in let w = same-walk L.records [] 0 header refl in rw (f, w)

  pub spare-free : read_of L s ≡ read_of L t
  spare-free = same_end
