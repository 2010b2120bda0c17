-- An accepted book's rules in the run that was lent to its reader, after six numbers for the floors: they stand there as entries, and all
-- numbers are within their ranges.
use Rattle.std.specs.Prelude.{Ok}
use Prim.Native.Nat.{ℕ, ◌+◌, ◌*◌, ◌≤◌}
use mathlib.Core.Path.{◌≡◌, sym, ap, ◌∙◌, subst}
use mathlib.Core.List.{List, ◌++◌}
use native.Mathlib.Omega.{arith}
use lib.ListN.{length, length-append}
use lib.IntN.{ℤ}
use Rattle.lp.specs.declared.Terms.{Terms}
use Rattle.lp.specs.Range.{SmallSystem, SmallFloors}
use Rattle.records.specs.Layout.{v2}
use Rattle.records.specs.Header.{header_fault, count_of}
use Rattle.book.specs.declared.Head.{Head}
use Rattle.book.specs.Reading.{accepted, Entry, read_of, rules_of}
use Rattle.book.specs.Promises.{ReadInto}
use Rattle.book.proofs.Bounds.{chain-count, rules-small, terms-small}
use Rattle.book.proofs.Causes.{accepted-clear}
use Rattle.book.proofs.Runs.{rules-length}
use Rattle.book.proofs.Said.{Accepted, none_said}
use Rattle.engine.specs.Entries.{entries}
use Rattle.planner.proofs.Laid.{chain-entries}
use Rattle.batching.specs.Asked.{Laid}

-- what is known of an accepted book
pub record Ready (s : List ℕ) (h : Head) (l : List ℤ) : Type 0 where
  pub terms : Terms
  pub chain : List Entry
  pub reads : read_of v2 s ≡ accepted terms chain
  pub head : h ≡ record { terms = terms; n = length chain }
  pub rules : entries l 2 h.n ≡ rules_of chain
  pub laid : Laid h.terms.floors h.n l

module _
    {s records : List ℕ} {mid : List ℤ} {h : Head} {records' : List ℕ} {rules' : List ℤ} (head post : List ℤ)
    (read : ReadInto v2 s records mid (Ok h) records' rules')
    (six : length head ≡ 6)
    (room : header_fault v2 s ≡ 0 → 3 * count_of v2 s ≤ length mid) where
  known : Accepted v2 s records mid h records' rules'
  known = none_said read

  abbrev run : List ℤ
  run = head ++ (rules' ++ post)

  enough : 3 * length known.entries ≤ length mid
  enough = omega (arith, chain-count v2 s known.reads, room (accepted-clear v2 s known.reads))

  chained : entries run 2 h.n ≡ rules_of known.entries
  chained =
      ap (λ (x : Head). entries run 2 x.n) known.head
      ∙ ap (λ (r : List ℤ). entries (head ++ (r ++ post)) 2 (length known.entries)) known.ruled
      ∙ chain-entries head mid post six known.entries enough

  pub ready : Ready s h run
  ready =
      record {
        terms = known.terms;
        chain = known.entries;
        reads = known.reads;
        head = known.head;
        rules = chained;
        laid =
            record {
              floors-small =
                  subst (λ (x : Head). SmallFloors x.terms.floors) (sym known.head) (terms-small v2 s known.reads).floors-small;
              room =
                  omega (
                    arith,
                    ap (λ (x : Head). x.n) known.head,
                    enough,
                    six,
                    length-append head (rules' ++ post),
                    length-append rules' post,
                    ap length known.ruled,
                    rules-length mid 0 known.entries,
                  );
              rules-small = subst SmallSystem (sym chained) (rules-small v2 s known.reads);
            };
      }
