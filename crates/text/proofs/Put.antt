-- Bytes put after bytes: two runs of stores, the second where the first ended, are one. What such a run makes of a buffer of any size,
-- and of one that it fills.
use mathlib.Core.Path.{◌≡◌, refl, ap, sym, ◌∙◌, subst}
use mathlib.Core.List.{List, [], ◌∷◌, ◌++◌, append_assoc}
use mathlib.Core.Bool.{Bool, false}
use Prim.Native.Nat.{ℕ, suc, ◌+◌, ◌-◌, ◌≤◌, ◌<◌}
use native.Mathlib.Nat.{le_refl, le-add_right, zero-add}
use native.Mathlib.Omega.{arith}
use borrow.Author.Tests.{ltb-false}
use borrow.Rule.Slice.PartMut.{put_mid, mid_of, post_of, Post-is}
use lib.Dec.{ltb}
use lib.ListN.{length, set, take, drop, length-append, length-drop, take-append-drop}
use lib.Seq.{sets, sets-eq, length-take-le, drop-drop}
use Rattle.std.proofs.lemmas.List.{drop-append-le}
use Rattle.text.specs.Append.{Appended, Appends, Fills}

sets_append : (l : List ℕ) (i : ℕ) (u v : List ℕ) → sets l i (u ++ v) ≡ sets (sets l i u) (i + length u) v
sets_append l i [] v = ap (λ (k : ℕ). sets l k v) (omega arith)
sets_append l i (a ∷ u) v =
    sets_append (set l i a) (suc i) u v ∙ ap (λ (k : ℕ). sets (sets (set l i a) (suc i) u) k v) (omega arith)

-- what two functions append in turn
pub followed : {before mid after : List ℕ} {at next end i j : ℕ} {u v : List ℕ} →
    Appended before at u i mid next →
    Appended mid next v j after end →
    Appended before at (u ++ v) (i + j) after end
followed {before} {mid} {after} {at} {next} {end} {i} {j} {u} {v} f g =
    record {
      stored =
          g.stored
          ∙ ap (λ (l : List ℕ). sets l next v) f.stored
          ∙ ap (λ (k : ℕ). sets (sets before at u) k v) f.moved
          ∙ sym (sets_append before at u v);
      moved = rw length-append (omega arith);
      small = rw length-append (omega arith);
    }

-- in more room than was taken
pub roomier : {before after bytes : List ℕ} {at next i j : ℕ} →
    i ≤ j →
    Appended before at bytes i after next →
    Appended before at bytes j after next
roomier h f = record { stored = f.stored; moved = f.moved; small = omega arith }

-- as other words for the same bytes
pub spelt : {before after u v : List ℕ} {at next i : ℕ} →
    u ≡ v →
    Appended before at u i after next →
    Appended before at v i after next
spelt {before} {after} {u} {v} {at} {next} {i} e f = subst (λ (l : List ℕ). Appended before at l i after next) e f

-- with no room to spare
pub exactly : {before after u : List ℕ} {v : List ℕ} {at next i : ℕ} →
    u ≡ v →
    Appended before at u i after next →
    Appended before at v (length v) after next
exactly {before} {after} {u} {v} {at} {next} {i} e f =
    record { stored = (spelt e f).stored; moved = (spelt e f).moved; small = le_refl (length v) }

-- ---- a word, copied in

pub copied : (out : List ℕ) (at : ℕ) {word part : List ℕ} →
    part ≡ word →
    at + length word ≤ length out →
    Appended out at word (length word) (put_mid at (at + length word - at) out part) (at + length word)
copied out at {word} {part} same room =
    record {
      stored =
          ap (λ (l : List ℕ). take at out ++ (l ++ post_of at (at + length word - at) out)) same
          ∙ ap (λ (l : List ℕ). take at out ++ (word ++ l)) (Post-is at (at + length word) out (le-add_right at (length word)))
          ∙ sym (append_assoc (take at out) word (drop (at + length word) out))
          ∙ sym (sets-eq word out at room);
      moved = refl;
      small = le_refl (length word);
    }

pub nothing : (out : List ℕ) (at room : ℕ) → Appended out at [] room out at
nothing out at room = record { stored = refl; moved = omega arith; small = omega arith }

-- ---- put at the start of a part of a buffer: in the whole from the part's place on

pub in_part : (out part bytes : List ℕ) (at : ℕ) {room count : ℕ} →
    at + length bytes ≤ length out →
    Appended (mid_of at (length out - at) out) 0 bytes room part count →
    Appended out at bytes room (put_mid at (length out - at) out part) (at + count)
in_part out part bytes at h f =
    let k : ℕ = length out - at in
    let mid : List ℕ = mid_of at k out in
    let post : List ℕ = post_of at k out in
    let n : ℕ = length bytes in
    let within : n ≤ length mid = rw (length-take-le k (drop at out) (omega (arith, length-drop at out))) (omega arith) in
    record {
      stored =
          ap (λ (l : List ℕ). take at out ++ (l ++ post))
          (f.stored ∙ sets-eq bytes mid 0 (omega arith) ∙ ap (λ (i : ℕ). bytes ++ drop i mid) (zero-add n))
          ∙ ap (λ (l : List ℕ). take at out ++ l) (append_assoc bytes (drop n mid) post)
          ∙ ap (λ (l : List ℕ). take at out ++ (bytes ++ l))
          (sym (drop-append-le n mid post within) ∙ ap (drop n) (take-append-drop k (drop at out)) ∙ drop-drop n at out)
          ∙ sym (append_assoc (take at out) bytes (drop (at + n) out))
          ∙ sym (sets-eq bytes out at h);
      moved = omega (arith, f.moved);
      small = f.small;
    }

-- ---- a buffer of any size: the test of its room is handed in as a Bool

-- so much is free in one with room
pub free : (before : List ℕ) (at room : ℕ) (b : Bool) →
    b ≡ ltb (length before) (at + room) →
    b ≡ false →
    at + room ≤ length before
free before at room b e t = ltb-false (length before) (at + room) (sym e ∙ t)

pub appends : {before after bytes : List ℕ} {at next room : ℕ} →
    at + room ≤ length before →
    Appended before at bytes room after next →
    Appends before at bytes room after next
appends h f = record { fits = λ _. f; untouched = λ k. absurd (omega arith); stays = λ k. absurd (omega arith) }

-- ---- a text that fills a buffer

pub too_small : (line : List ℕ) (room : ℕ) (out : List ℕ) → length out < room → Fills line room out out 0
too_small line room out h =
    record {
      untouched = λ _. refl;
      nothing = λ _. refl;
      stands = λ k. absurd (omega arith);
      counted = λ k. absurd (omega arith);
      enough = omega arith;
    }

enough-room : {line before after : List ℕ} {room count : ℕ} →
    room ≤ length before →
    after ≡ line ++ drop (length line) before →
    count ≡ length line →
    count ≤ room →
    Fills line room before after count
enough-room h stands counted enough =
    record {
      untouched = λ p. absurd (omega arith);
      nothing = λ p. absurd (omega arith);
      stands = λ _. stands;
      counted = λ _. counted;
      enough = enough;
    }

pub filled : {line before after : List ℕ} {room small count : ℕ} →
    room ≤ length before →
    small ≤ room →
    Appended before 0 line small after count →
    Fills line room before after count
filled {line} {before} h k f =
    enough-room h
    (f.stored ∙ sets-eq line before 0 (omega (arith, f.small)) ∙ ap (λ (n : ℕ). line ++ drop n before) (zero-add (length line)))
    (omega (arith, f.moved))
    (omega (arith, f.moved, f.small))
