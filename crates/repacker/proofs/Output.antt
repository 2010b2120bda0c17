-- What repacking hands back and leaves in the output, from what the book reads as.
use Rattle.std.specs.Prelude.{Result, Ok, Err}
use Rattle.std.proofs.lemmas.List.Edits.{paste_all}
use Rattle.answers.specs.declared.Refusal.{Refusal}
use Rattle.answers.specs.Refusal.{refusal}
use Prim.Native.Nat.{ℕ, ◌+◌, ◌*◌, ◌≤◌, ◌<◌}
use mathlib.Core.Path.{◌≡◌, refl, sym, ap, ◌∙◌, subst}
use mathlib.Core.Bool.{true, false, cond}
use mathlib.Core.List.{List, [], ◌∷◌, ◌++◌, map}
use native.Mathlib.Omega.{arith}
use borrow.Author.Tests.{lt-ltb, le-ltb}
use lib.ListN.{length, take, drop, length-append, length-map}
use lib.Seq.{take_all, drop-drop, paste, take-paste, drop-paste}
use lib.Dec.{ltb}
use lib.IntN.{ℤ}
use Rattle.records.specs.declared.Version.{Version}
use Rattle.records.specs.declared.Version.TheVariants.{One, Two}
use Rattle.records.specs.Layout.{Layout, v1, v2, layout_of}
use Rattle.records.specs.Encoded.{Encoded, encoded}
use Rattle.records.specs.Record.{record_at, rule_of}
use Rattle.records.specs.Header.{terms_of}
use Rattle.book.specs.declared.Head.{Head}
use Rattle.book.specs.Reading.{refused, accepted, records_of, entry_at, read_of}
use Rattle.packing.specs.Bytes.{header_bytes}
use Rattle.repacker.specs.Repacking.{next_of, chain_bytes, book_of, Packing, declined, packed, rule_in, pack_of, rules_at}
use Rattle.book.specs.Runs.{Few}
use Rattle.book.specs.Promises.{ReadInto}
use Rattle.repacker.specs.Promises.{repacked_of, output_of, Repacks}
use Rattle.book.proofs.Causes.{acceptance_means, accepted-clear, count_small, count-is, walked-length}
use Rattle.book.proofs.Said.{none_said, said-count}
use Rattle.book.proofs.Links.{indices}
use Rattle.book.proofs.Runs.{records-length, records-taken}
use Rattle.repacker.proofs.Packed.{length-record_bytes, length-chain_bytes, length-book_of, next-is}

pub rules-of : (L : Layout) (s done : List ℕ) → map rule_in (map (entry_at L s) done) ≡ map (λ (i : ℕ). rule_of L (record_at L s i)) done
rules-of L s [] = refl
rules-of L s (i ∷ done) = ap (λ l. rule_of L (record_at L s i) ∷ l) (rules-of L s done)

-- no book has more than 4,095 rules, and none of 3,584 bytes more than 255
most-of : (v : Version) (s : List ℕ) → Few (layout_of v) s 4095
most-of One s clear = omega (arith, count_small v1 s clear)
most-of Two s clear = omega (arith, count_small v2 s clear)

short-of : (v : Version) (s : List ℕ) → length s ≤ 3584 → Few (layout_of v) s 255
short-of One s h clear = omega (arith, count_small v1 s clear)
short-of Two s h clear = omega (arith, h, count-is v2 s clear)

module _ (v : Version) (s : List ℕ) {b : Encoded} (e : encoded v s ≡ b) where
  pub most-rules : Few b.layout b.bytes 4095
  most-rules = subst (λ (b : Encoded). Few b.layout b.bytes 4095) e (most-of v s)

  pub short-few : length s ≤ 3584 → Few b.layout b.bytes 255
  short-few h = subst (λ (b : Encoded). Few b.layout b.bytes 255) e (short-of v s h)

-- what a reading of an accepted book leaves in a run with room for its records
pub record ChainRead (L : Layout) (s : List ℕ) (h : Head) (run : List ℕ) : Type 0 where
  pub done : List ℕ
  pub reads : read_of L s ≡ accepted (terms_of L s) (map (entry_at L s) done)
  pub count : h.n ≡ length done
  pub kept : take h.n run ≡ done
  pub few : h.n ≤ 4095
  pub room : h.n ≤ length run

pub chain-accepted : {L : Layout} {s : List ℕ} {h : Head} {first run : List ℕ} {blank rules : List ℤ} →
    ReadInto L s first blank (Ok h) run rules →
    Few L s (length first) →
    length first ≤ 4095 →
    ChainRead L s h run
chain-accepted {L} {s} {h} {first} {run} r room most =
    let x = none_said r in
    let a = acceptance_means L s x.reads in
    let many : length x.entries ≡ length a.done = ap length a.entries ∙ length-map a.done (entry_at L s) in
    let n = said-count x in
    let all : length x.entries ≤ length first =
    omega (arith, many, walked-length L s a.walked, room (accepted-clear L s x.reads)) in
    let long : length run ≡ length first = ap (λ (l : List ℕ). length l) x.recorded ∙ records-length first 0 x.entries in
    record {
      done = a.done;
      reads = x.reads ∙ (λ j. accepted (a.terms j) (a.entries j));
      count = n ∙ many;
      kept =
          (λ j. take (n j) (x.recorded j))
          ∙ records-taken first x.entries all
          ∙ ap records_of a.entries
          ∙ indices L s a.done;
      few = omega (arith, n, all, most);
      room = omega (arith, n, all, long);
    }

-- two copies from the front on fill the front
two_pastes : (out H T : List ℕ) (m : ℕ) →
    length H ≡ 14 →
    length T ≡ m →
    14 ≤ length out →
    paste (paste out 0 H 14) 14 T m ≡ H ++ T ++ drop (length (H ++ T)) out
two_pastes out H T m h t r =
    let P = paste out 0 H 14 in
    let front : take 14 P ≡ H = take-paste out 0 H 14 (omega arith) (omega arith) ∙ take_all 14 H (omega arith) in
    let middle : take m T ≡ T = take_all m T (omega arith) in
    let n : 14 + m ≡ length (H ++ T) = omega (arith, length-append H T) in
    let back : drop (14 + m) P ≡ drop (length (H ++ T)) out =
    sym (drop-drop m 14 P) ∙ ap (drop m) (drop-paste out 0 H 14 (omega arith) (omega arith)) ∙ drop-drop m 14 out
    ∙ ap (λ k. drop k out) n in
    λ i. front i ++ middle i ++ back i

-- ---- the answers

module _ (L : Layout) (s out : List ℕ) where
  pub packs-refused : {x : Refusal} {r : Result ℕ Refusal} → read_of L s ≡ refused x.number x.at → r ≡ Err x → Repacks L s out r out
  unfolding pack_of
  packs-refused e q = record { answer = q ∙ rw e; output = rw e }

  module _ {ch : Head} {run : List ℕ} (c : ChainRead L s ch run) where
    pub packs-declined : length out < 14 * (ch.n + 1) → {x : Refusal} → x ≡ refusal 11 0 → Repacks L s out (Err x) out
    unfolding pack_of
    packs-declined l q =
        record {
          answer = ap Err q ∙ ap repacked_of (sym declines);
          output = ap (λ (k : Packing). output_of k out) (sym declines);
        }
      where
        short : ltb (length out) (14 * (length (map (entry_at L s) c.done) + 1)) ≡ true
        short = lt-ltb (length out) (14 * (length (map (entry_at L s) c.done) + 1)) (rw (length-map, ← c.count) l)

        declines : pack_of v2 (read_of L s) (length out) ≡ declined 11 0
        declines = rw (c.reads, short)

    rules-long : length (rules_at L s c.done) ≡ ch.n
    rules-long = length-map c.done (λ (i : ℕ). rule_of L (record_at L s i)) ∙ sym c.count

    book-long : length (book_of v2 (terms_of L s) (rules_at L s c.done)) ≡ 14 * (ch.n + 1)
    book-long = length-book_of v2 (terms_of L s) (rules_at L s c.done) ∙ ap (λ n. 14 * (n + 1)) rules-long

    fits : 14 * (ch.n + 1) ≤ length out →
        pack_of v2 (read_of L s) (length out) ≡ packed (book_of v2 (terms_of L s) (rules_at L s c.done))
    unfolding pack_of
    fits h =
        let room : ltb (length out) (14 * (length (map (entry_at L s) c.done) + 1)) ≡ false =
        le-ltb (length out) (14 * (length (map (entry_at L s) c.done) + 1)) (rw (length-map, ← c.count) h) in
        rw (c.reads, room, rules-of L s c.done)

    pub packs-packed : 14 * (ch.n + 1) ≤ length out →
        (first : ℕ) (H out₁ out₂ : List ℕ) →
        first ≡ cond (ltb 0 ch.n) 1 0 →
        H ≡ header_bytes v2 first (terms_of L s) ch.n →
        length H ≡ 14 →
        out₁ ≡ H ++ drop 14 out →
        out₂ ≡ paste out₁ 14 (chain_bytes v2 1 (rules_at L s (take ch.n run))) (14 * ch.n) →
        Repacks L s out (Ok (14 * (ch.n + 1))) out₂
    unfolding book_of
    packs-packed h first H out₁ out₂ ef eh el e₁ e₂ =
        let link : first ≡ next_of 0 (rules_at L s c.done) = ef ∙ ap (λ n. cond (ltb 0 n) 1 0) (sym rules-long) ∙ sym (next-is 0 0 (rules_at L s c.done)) in
        let head : H ≡ header_bytes v2 (next_of 0 (rules_at L s c.done)) (terms_of L s) (length (rules_at L s c.done)) =
        eh ∙ (λ j. header_bytes v2 (link j) (terms_of L s) (sym rules-long j)) in
        let T = chain_bytes v2 1 (rules_at L s c.done) in
        let long : length T ≡ 14 * ch.n = length-chain_bytes v2 1 (rules_at L s c.done) ∙ rw rules-long (omega arith) in
        record {
          answer = ap (λ (n : ℕ). Ok n) (sym book-long) ∙ ap repacked_of (sym (fits h));
          output =
              e₂
              ∙ (λ j. paste ((e₁ ∙ sym (paste_all out 0 H 14 (sym el))) j) 14 (chain_bytes v2 1 (rules_at L s (c.kept j))) (14 * ch.n))
              ∙ ap (λ l. paste (paste out 0 l 14) 14 T (14 * ch.n)) head
              ∙ two_pastes out (header_bytes v2 (next_of 0 (rules_at L s c.done)) (terms_of L s) (length (rules_at L s c.done))) T (14 * ch.n)
              (length-record_bytes v2 _ _ _ _ _ _) long (omega arith)
              ∙ ap (λ (k : Packing). output_of k out) (sym (fits h));
        }
