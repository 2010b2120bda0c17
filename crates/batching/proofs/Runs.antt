-- The runs that a book's class has: room for its chain, its rules between the floors and the horizon, the ring and its corners.
use Prim.Native.Nat.{ℕ, ◌+◌, ◌*◌, ◌-◌, ◌≤◌}
use Rattle.std.specs.Prelude.{Ok}
use mathlib.Core.Path.{◌≡◌, refl, sym, ap, ◌∙◌}
use mathlib.Core.Bool.{true}
use mathlib.Core.List.{List, ◌++◌}
use native.Mathlib.Omega.{arith}
use lib.ListN.{length, take, drop}
use lib.Seq.{length-take-le}
use lib.IntN.{ℤ}
use Rattle.lp.specs.Outcome.{every}
use Rattle.records.specs.declared.Version.TheVariants.{Two}
use Rattle.records.specs.Layout.{v2}
use Rattle.records.specs.Header.{header_fault, count_of}
use Rattle.book.specs.declared.Head.{Head}
use Rattle.book.specs.Promises.{ReadInto}
use Rattle.book.specs.Runs.{Few}
use Rattle.book.proofs.Bounds.{chain-count}
use Rattle.book.proofs.Causes.{accepted-clear}
use Rattle.repacker.proofs.Output.{most-rules}
use Rattle.planner.proofs.Runs.{part_room}
use Rattle.engine.specs.Entries.{entries}
use Rattle.amounts.specs.Tests.{rule_in_range}
use Rattle.amounts.proofs.Tests.{floors_pass, system-passes}
use Rattle.laying.specs.Laying.{within}
use Rattle.laying.proofs.Layouts.{is_within}
use Rattle.batching.specs.Asked.{Roomy}
use Rattle.batching.proofs.Books.{Ready, ready}

pub few-roomy : (s : List ℕ) (n : ℕ) →
    Few v2 s n →
    (records : List ℕ) (run : List ℤ) (ring : List ℕ) (corners : List ℤ) →
    length records ≡ n →
    length run ≡ 3 * (n + 3) →
    length ring ≡ 2 * (n + 4) →
    length corners ≡ 3 * (n + 3) →
    Roomy s records run ring corners
few-roomy s n few records run ring corners er el eg ek =
    record {
      names = λ clear. omega (arith, few clear);
      rules = λ clear. omega (arith, few clear);
      floors = omega arith;
      ring-room = λ clear. omega (arith, few clear);
      corners-room = λ clear. omega (arith, few clear);
    }

-- room for the rules that are read, after the six numbers for the floors
rules-room : {s records : List ℕ} {run : List ℤ} {ring : List ℕ} {corners : List ℤ} →
    Roomy s records run ring corners →
    header_fault v2 s ≡ 0 →
    3 * (count_of v2 s + 2) ≤ length run
rules-room room clear = omega (arith, room.rules clear)

module _ (s : List ℕ) (h : Head) (l : List ℤ) (x : Ready s h l) where
  pub counted : h.n ≡ length x.chain
  counted = ap (λ (y : Head). y.n) x.head

  pub clear : header_fault v2 s ≡ 0
  clear = accepted-clear v2 s x.reads

  pub few-rules : h.n ≤ 4095
  few-rules = omega (arith, counted, chain-count v2 s x.reads, most-rules Two s refl clear)

  module _ {records : List ℕ} {run : List ℤ} {ring : List ℕ} {corners : List ℤ} (room : Roomy s records run ring corners) where
    named : (after : List ℕ) → length after ≡ length records → h.n ≤ length after
    named after same = omega (arith, same, counted, chain-count v2 s x.reads, room.names clear)

    -- all numbers are within their ranges, and the runs have room
    pub in-range : (order : List ℕ) →
        length order ≡ h.n →
        length l ≡ length run →
        within h.terms.floors l (length order) (length ring) (length corners) ≡ true
    in-range order eo el =
        is_within h.terms.floors l (length order) (length ring) (length corners)
        (record {
          order =
              record {
                few = omega (arith, eo, few-rules);
                ring-room = omega (arith, eo, counted, chain-count v2 s x.reads, room.ring-room clear);
                corners-room = omega (arith, eo, counted, chain-count v2 s x.reads, room.corners-room clear);
                floors = floors_pass {f = h.terms.floors} x.laid.floors-small;
              };
          room = omega (arith, eo, el, counted, chain-count v2 s x.reads, room.rules clear);
          rules =
              ap (λ (m : ℕ). every rule_in_range (entries l 2 m)) eo
              ∙ system-passes (entries l 2 h.n) x.laid.rules-small;
        })

-- ---- what is found after a book was read and accepted: its rules stand in the run, and the order has a place for each

pub record Entered (s : List ℕ) (h : Head) (l : List ℤ) (after : List ℕ) : Type 0 where
  pub ready : Ready s h l
  pub named : h.n ≤ length after
  pub ordered : h.n ≡ length (take h.n after)

pub entered : {s records after : List ℕ} {run rules' : List ℤ} {ring : List ℕ} {corners : List ℤ} {h : Head} (post : List ℤ) →
    Roomy s records run ring corners →
    ReadInto v2 s records (take (length run - 6) (drop 6 run)) (Ok h) after rules' →
    length after ≡ length records →
    Entered s h (take 6 run ++ (rules' ++ post)) after
entered {s} {records} {after} {run} {rules'} {h = h} post room read same =
    let x = ready (take 6 run) post read (length-take-le 6 run room.floors) (λ z. part_room run (count_of v2 s) (rules-room room z)) in
    let there = named s h (take 6 run ++ (rules' ++ post)) x room after same in
    record { ready = x; named = there; ordered = sym (length-take-le h.n after there) }
