-- Document 01's table 'Turned back' and 12 of document 02, row by row, as statements: what it means that a cause applies and none before
-- it does. `read_of` computes a number and a record; that they are those said here, and that an accepted book has none, are theorems
-- (`proofs/Causes.antt`).
use Rattle.std.specs.Prelude.{ℕ, ◌-◌, ◌*◌, ◌/◌, ◌%◌, ◌≤◌, ◌<◌, ◌≡◌, true, false, List, [], ◌∷◌, ◌++◌, map, length, pos, negsuc, ◌<ℤ◌}
use Rattle.lp.specs.declared.Terms.{Terms}
use Rattle.records.specs.Layout.{Layout, width}
use Rattle.records.specs.Record.{record_at, link_of, kind_of, pad_of, c_of, rule_of}
use Rattle.records.specs.Header.{objective_of, terms_of, count_of}
use Rattle.book.specs.Reading.{Reading, refused, accepted, Entry, entry_at, label_at, memb}

-- ---- the header: 1 to 5

pub data WrongLength (L : Layout) (s : List ℕ) : Type 0 where
  short : length s < width L → WrongLength L s
  long : width L * L.records < length s → WrongLength L s
  uneven : (length s % width L ≡ 0 → ⊥) → WrongLength L s

pub data WrongVersion (L : Layout) (s : List ℕ) : Type 0 where
  other : (kind_of L (record_at L s 0) ≡ L.version → ⊥) → WrongVersion L s
  padding : (pad_of L (record_at L s 0) ≡ 0 → ⊥) → WrongVersion L s

pub data WrongCount (L : Layout) (s : List ℕ) : Type 0 where
  differs : (count_of L s ≡ length s / width L - 1 → ⊥) → WrongCount L s

pub data WrongObjective (L : Layout) (s : List ℕ) : Type 0 where
  p-least : (objective_of L s).p ≡ negsuc 32767 → WrongObjective L s
  q-least : (objective_of L s).q ≡ negsuc 32767 → WrongObjective L s

pub data WrongTail (L : Layout) (s : List ℕ) : Type 0 where
  set : L.floors ≡ false → (c_of L (record_at L s 0) ≡ 0 → ⊥) → WrongTail L s

-- ---- a rule record, from its bytes: 8 to 10

pub data WrongKind (L : Layout) (r : List ℕ) : Type 0 where
  neither : (kind_of L r ≡ 1 → ⊥) → (kind_of L r ≡ 2 → ⊥) → WrongKind L r
  padding : (pad_of L r ≡ 0 → ⊥) → WrongKind L r

pub data WrongSlope (L : Layout) (r : List ℕ) : Type 0 where
  a-least : (rule_of L r).a ≡ negsuc 32767 → WrongSlope L r
  b-least : (rule_of L r).b ≡ negsuc 32767 → WrongSlope L r

pub data WrongBound (L : Layout) (r : List ℕ) : Type 0 where
  low : (rule_of L r).c <ℤ negsuc 999999999 → WrongBound L r
  high : pos 1000000000 <ℤ (rule_of L r).c → WrongBound L r

-- ---- the chain

-- as far as it was walked with no cause on the way: the records visited, in order, and the one reached last (0 is the header)
pub data Walked (L : Layout) (s : List ℕ) : List ℕ → ℕ → Type 0 where
  header : (WrongLength L s → ⊥) →
      (WrongVersion L s → ⊥) →
      (WrongCount L s → ⊥) →
      (WrongObjective L s → ⊥) →
      (WrongTail L s → ⊥) →
      Walked L s [] 0
  visit : {done : List ℕ} {at : ℕ} →
      Walked L s done at →
      (i : ℕ) →
      i ≡ link_of L (record_at L s at) →
      (i ≡ 0 → ⊥) →
      i ≤ count_of L s →
      memb i done ≡ false →
      (WrongKind L (record_at L s i) → ⊥) →
      (WrongSlope L (record_at L s i) → ⊥) →
      (WrongBound L (record_at L s i) → ⊥) →
      memb (label_at L s i) (map (label_at L s) done) ≡ false →
      Walked L s (done ++ (i ∷ [])) i

-- a link leads from there to record i, not visited before
pub record Reached (L : Layout) (s : List ℕ) (i : ℕ) : Type 0 where
  pub done : List ℕ
  pub at : ℕ
  pub walked : Walked L s done at
  pub link : i ≡ link_of L (record_at L s at)
  pub some : i ≡ 0 → ⊥
  pub within : i ≤ count_of L s
  pub new : memb i done ≡ false

-- the cause with this number applies, names this record, and none before it applies
pub data Applies (L : Layout) (s : List ℕ) : ℕ → ℕ → Type 0 where
  cause_1 : WrongLength L s → Applies L s 1 0
  cause_2 : (WrongLength L s → ⊥) → WrongVersion L s → Applies L s 2 0
  cause_3 : (WrongLength L s → ⊥) → (WrongVersion L s → ⊥) → WrongCount L s → Applies L s 3 0
  cause_4 : (WrongLength L s → ⊥) → (WrongVersion L s → ⊥) → (WrongCount L s → ⊥) → WrongObjective L s → Applies L s 4 0
  cause_5 : (WrongLength L s → ⊥) →
      (WrongVersion L s → ⊥) →
      (WrongCount L s → ⊥) →
      (WrongObjective L s → ⊥) →
      WrongTail L s →
      Applies L s 5 0
  cause_6 : {done : List ℕ} {at : ℕ} → Walked L s done at → count_of L s < link_of L (record_at L s at) → Applies L s 6 at
  cause_7 : {done : List ℕ} {at : ℕ} →
      Walked L s done at →
      (link_of L (record_at L s at) ≡ 0 → ⊥) →
      link_of L (record_at L s at) ≤ count_of L s →
      memb (link_of L (record_at L s at)) done ≡ true →
      Applies L s 7 at
  cause_8 : {i : ℕ} → Reached L s i → WrongKind L (record_at L s i) → Applies L s 8 i
  cause_9 : {i : ℕ} → Reached L s i → (WrongKind L (record_at L s i) → ⊥) → WrongSlope L (record_at L s i) → Applies L s 9 i
  cause_10 : {i : ℕ} →
      Reached L s i →
      (WrongKind L (record_at L s i) → ⊥) →
      (WrongSlope L (record_at L s i) → ⊥) →
      WrongBound L (record_at L s i) →
      Applies L s 10 i
  cause_12 : {i : ℕ} →
      (r : Reached L s i) →
      (WrongKind L (record_at L s i) → ⊥) →
      (WrongSlope L (record_at L s i) → ⊥) →
      (WrongBound L (record_at L s i) → ⊥) →
      memb (label_at L s i) (map (label_at L s) r.done) ≡ true →
      Applies L s 12 i

-- the chain ends with no cause on the way
pub record Accepts (L : Layout) (s : List ℕ) (t : Terms) (es : List Entry) : Type 0 where
  pub done : List ℕ
  pub at : ℕ
  pub walked : Walked L s done at
  pub ends : link_of L (record_at L s at) ≡ 0
  pub terms : t ≡ terms_of L s
  pub entries : es ≡ map (entry_at L s) done

-- what a reading says of its book
abbrev pub Meets : (L : Layout) → List ℕ → Reading → Type 0
Meets L s (refused k i) = Applies L s k i
Meets L s (accepted t es) = Accepts L s t es
