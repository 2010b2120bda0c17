-- A book read behind n rules that stand in the two runs: what stood before it stays, and an accepted book's records and rules stand behind.
-- A run whose part was lent is its head, the part as it came back, and what follows the part.
use mathlib.Core.Path.{◌≡◌, sym, ◌∙◌, ap}
use mathlib.Core.List.{List, ◌++◌}
use Prim.Native.Nat.{ℕ, ◌+◌, ◌-◌, ◌*◌, ◌≤◌, ◌<◌}
use native.Mathlib.Omega.{arith}
use lib.ListN.{length, get_or, take, drop, length-append, length-take, length-drop, get_or-append}
use lib.Seq.{get_or-append-add, get_or-take, length-take-le}
use lib.IntN.{ℤ, pos}
use Rattle.lp.specs.declared.Terms.{Terms}
use Rattle.records.specs.Layout.{v2}
use Rattle.std.proofs.Common.{Result}
use Rattle.answers.specs.declared.Refusal.{Refusal}
use Rattle.book.specs.declared.Head.{Head}
use Rattle.book.specs.Reading.{accepted, Entry, read_of, passed_of, rules_of}
use Rattle.book.specs.Runs.{put_records, put_rules}
use Rattle.book.specs.Promises.{ReadInto}
use Rattle.book.proofs.Causes.{accepted-passed}
use Rattle.book.proofs.Runs.{record-placed, rule-placed, records-length, rules-length}
use Rattle.engine.specs.Entries.{entry}
use Rattle.joining.specs.Running.{no_rule, Behind, Stand, ReadsBehind}

-- ---- of a run whose part was lent

module _ {A : Type 0} (d : A) (a : ℕ) (l part post : List A) (inside : a ≤ length l) where
  abbrev pub lent : List A
  lent = take a l ++ (part ++ post)

  head-length : length (take a l) ≡ a
  head-length = length-take-le a l inside

  pub before-part : (j : ℕ) → j < a → get_or lent j d ≡ get_or l j d
  before-part j h = get_or-append (take a l) (part ++ post) d j (omega (arith, head-length)) ∙ get_or-take a l j d h

  pub at_part : (j : ℕ) → j < length part → get_or lent (a + j) d ≡ get_or part j d
  at_part j h =
      ap (λ n. get_or lent (n + j) d) (sym head-length)
      ∙ get_or-append-add (take a l) (part ++ post) j d
      ∙ get_or-append part post d j h

-- ---- entries of a run of numbers, three to an entry

module _ (n : ℕ) (l part post : List ℤ) (inside : 6 + 3 * n ≤ length l) where
  abbrev pub run : List ℤ
  run = take (6 + 3 * n) l ++ (part ++ post)

  before : (j : ℕ) → j < 6 + 3 * n → get_or run j (pos 0) ≡ get_or l j (pos 0)
  before = before-part (pos 0) (6 + 3 * n) l part post inside

  after : (j : ℕ) → j < length part → get_or run (6 + 3 * n + j) (pos 0) ≡ get_or part j (pos 0)
  after = at_part (pos 0) (6 + 3 * n) l part post inside

  pub entry-before : (k : ℕ) → k < n + 2 → entry run k ≡ entry l k
  entry-before k h = λ i. record { a = first i; b = second i; c = third i }
    where
      first : get_or run (3 * k) (pos 0) ≡ get_or l (3 * k) (pos 0)
      first = before (3 * k) (omega arith)

      second : get_or run (3 * k + 1) (pos 0) ≡ get_or l (3 * k + 1) (pos 0)
      second = before (3 * k + 1) (omega arith)

      third : get_or run (3 * k + 2) (pos 0) ≡ get_or l (3 * k + 2) (pos 0)
      third = before (3 * k + 2) (omega arith)

  pub entry-after : (k : ℕ) → 3 * k + 2 < length part → entry run (n + k + 2) ≡ entry part k
  entry-after k h = λ i. record { a = first i; b = second i; c = third i }
    where
      plain : 3 * (n + k + 2) ≡ 6 + 3 * n + 3 * k
      plain = omega arith

      place : (j : ℕ) → 3 * (n + k + 2) + j ≡ 6 + 3 * n + (3 * k + j)
      place j = omega arith

      first : get_or run (3 * (n + k + 2)) (pos 0) ≡ get_or part (3 * k) (pos 0)
      first = ap (λ m. get_or run m (pos 0)) plain ∙ after (3 * k) (omega arith)

      second : get_or run (3 * (n + k + 2) + 1) (pos 0) ≡ get_or part (3 * k + 1) (pos 0)
      second = ap (λ m. get_or run m (pos 0)) (place 1) ∙ after (3 * k + 1) (omega arith)

      third : get_or run (3 * (n + k + 2) + 2) (pos 0) ≡ get_or part (3 * k + 2) (pos 0)
      third = ap (λ m. get_or run m (pos 0)) (place 2) ∙ after (3 * k + 2) h

-- ---- the reading

module _ (s : List ℕ) (n : ℕ) (names : List ℕ) (l : List ℤ) (asked : Behind names l n) where
  abbrev part-names : List ℕ
  part-names = take (length names - n) (drop n names)

  abbrev part-rules : List ℤ
  part-rules = take (length l - (6 + 3 * n)) (drop (6 + 3 * n) l)

  names-room : length part-names ≡ length names - n
  names-room = simp (length-take, length-drop) (omega arith)

  rules-room : length part-rules ≡ length l - (6 + 3 * n)
  rules-room = simp (length-take, length-drop) (omega arith)

  module _ (h : Result Head Refusal) (records' : List ℕ) (rules' : List ℤ) (read : ReadInto v2 s part-names part-rules h records' rules') where
    abbrev names' : List ℕ
    names' = take n names ++ (records' ++ drop (length names - n) (drop n names))

    abbrev l' : List ℤ
    l' = take (6 + 3 * n) l ++ (rules' ++ drop (length l - (6 + 3 * n)) (drop (6 + 3 * n) l))

    inside : 6 + 3 * n ≤ length l
    inside = omega (arith, asked.rules)

    came_names : length records' ≡ length names - n
    came_names = ap length read.recorded ∙ records-length part-names 0 (passed_of v2 s) ∙ names-room

    came_rules : length rules' ≡ length l - (6 + 3 * n)
    came_rules = ap length read.ruled ∙ rules-length part-rules 0 (passed_of v2 s) ∙ rules-room

    stands : (t : Terms) (es : List Entry) →
        read_of v2 s ≡ accepted t es →
        n + length es ≤ length names →
        3 * (n + length es + 2) ≤ length l →
        Stand es n names' l'
    stands t es e records rules =
        record {
          named =
              λ i less. at_part 0 n names records' (drop (length names - n) (drop n names)) asked.records i
              (omega (arith, came_names))
              ∙ ap (λ (x : List ℕ). get_or x i 0) noted
              ∙ record-placed part-names es i (omega (arith, names-room)) less;
          ruled =
              λ i less. entry-after n l rules' (drop (length l - (6 + 3 * n)) (drop (6 + 3 * n) l)) inside i
              (omega (arith, came_rules))
              ∙ ap (λ (x : List ℤ). entry x i) laid
              ∙ placed i less;
        }
      where
        noted : records' ≡ put_records part-names 0 es
        noted = read.recorded ∙ ap (put_records part-names 0) (accepted-passed v2 s e)

        laid : rules' ≡ put_rules part-rules 0 es
        laid = read.ruled ∙ ap (put_rules part-rules 0) (accepted-passed v2 s e)

        placed : (i : ℕ) → i < length es → entry (put_rules part-rules 0 es) i ≡ get_or (rules_of es) i no_rule
        placed i less =
            let p = rule-placed part-rules es i (omega (arith, rules-room)) less in
            λ j. record { a = p.a j; b = p.b j; c = p.c j }

    pub reads-behind : ReadsBehind s n names l h names' l'
    reads-behind =
        record {
          answer = read.answer;
          same_names = simp (length-append, length-take, length-drop) (omega (arith, came_names, asked.records));
          same_length = simp (length-append, length-take, length-drop) (omega (arith, came_rules, inside));
          names-before = before-part 0 n names records' (drop (length names - n) (drop n names)) asked.records;
          rules-before = entry-before n l rules' (drop (length l - (6 + 3 * n)) (drop (6 + 3 * n) l)) inside;
          stand = stands;
        }
