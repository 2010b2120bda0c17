-- The repacked form: n rules in records 1 to n in chain order, each link one higher, the last 0. It has version 2's layout, whatever the
-- version of the book (request 105). The bytes are a function of the terms and the rules alone, so that there is one form for each.
use Rattle.std.specs.Prelude.{ℕ, suc, ◌+◌, ◌*◌, ◌≤◌, ◌≡◌, true, cond, List, [], ◌∷◌, ◌++◌, map, length, ltb}
use Rattle.lp.specs.declared.Terms.{Terms}
use Rattle.records.specs.declared.Rule.{Rule}
use Rattle.records.specs.Layout.{Layout, width, v2}
use Rattle.records.specs.Record.{record_at, rule_of}
use Rattle.packing.specs.Bytes.{header_bytes, rule_bytes}
use Rattle.book.specs.Reading.{Reading, refused, accepted, Entry, read_of}

-- the link of record k, where these rules come after it
abbrev pub next_of : ℕ → List Rule → ℕ
next_of k [] = 0
next_of k (r ∷ rs) = suc k

module _ (L : Layout) where
  -- rules in records k, k + 1, ..
  unfoldable pub chain_bytes : ℕ → List Rule → List ℕ
  chain_bytes k [] = []
  chain_bytes k (r ∷ rs) = rule_bytes L (next_of k rs) r ++ chain_bytes (suc k) rs

  unfoldable pub book_of : Terms → List Rule → List ℕ
  book_of t rs = header_bytes L (next_of 0 rs) t (length rs) ++ chain_bytes 1 rs

-- rules as the entries of records k, k + 1, ..
abbrev pub numbered : ℕ → List Rule → List Entry
numbered k [] = []
numbered k (r ∷ rs) = record { index = k; rule = r } ∷ numbered (suc k) rs

-- what repacking comes to: a number and a record, or the bytes
pub data Packing : Type 0 where
  declined : ℕ → ℕ → Packing
  packed : List ℕ → Packing

abbrev pub rule_in : Entry → Rule
rule_in e = e.rule

-- the repacked form of what was read, if it has room; 11 comes last
unfoldable pub pack_of : Layout → Reading → ℕ → Packing
pack_of L (refused n r) room = declined n r
pack_of L (accepted t es) room =
    cond (ltb room (width L * (length es + 1))) (declined 11 0) (packed (book_of L t (map rule_in es)))

-- a book of whichever layout is written in version 2's
abbrev pub repack_of : Layout → List ℕ → ℕ → Packing
repack_of L s room = pack_of v2 (read_of L s) room

-- a layout whose books another can hold: with no more records, and with floors only where the other has them too
pub record Carried (L W : Layout) : Type 0 where
  pub records : L.records ≤ W.records
  pub floors : L.floors ≡ true → W.floors ≡ true

-- the rules of some records
abbrev pub rules_at : Layout → List ℕ → List ℕ → List Rule
rules_at L s is = map (λ (i : ℕ). rule_of L (record_at L s i)) is

-- a run of records with n rules, and an output with room for them in version 2
pub record OutputRoom (n : ℕ) (run out : List ℕ) : Type 0 where
  pub few : n ≤ 4095
  pub all : n ≤ length run
  pub room : 14 * (n + 1) ≤ length out

-- two books that are accepted with the same terms and the same rules, labels and kinds in the same order, wherever their records lie
pub record ReadAlike (x y : Reading) : Type 0 where
  pub terms : Terms
  pub first : List Entry
  pub second : List Entry
  pub one : x ≡ accepted terms first
  pub two : y ≡ accepted terms second
  pub rules : map rule_in first ≡ map rule_in second
