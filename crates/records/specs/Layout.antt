-- The layout of a record: document 01's table of bytes, as one parameter of the format. A record is its fields one after the other:
-- link, kind (in the header: version), padding that must be zero, a (p), b (q), label (count), c (in the header: the tail).
-- Only what differs between versions of the format is a field here; the offsets follow from it, so that fields cannot overlap.
use Rattle.std.specs.Prelude.{ℕ, ◌+◌, ◌^◌, ◌≤◌, ◌<◌, Bool, true, false}
use Rattle.records.specs.declared.Version.{Version}
use Rattle.records.specs.declared.Version.TheVariants.{One, Two}

pub record Layout : Type 0 where
  pub link : ℕ  -- how many bytes a link has
  pub pad : ℕ  -- how many bytes of padding follow the kind
  pub version : ℕ  -- what the header has in the place of a kind
  pub records : ℕ  -- how many records a book has at most, the header among them
  pub floors : Bool  -- whether the header's tail are the floors, x first; where not, it must be zero

module _ (L : Layout) where
  -- where each field starts in its record, after the link at 0; last, where the record ends
  abbrev pub at_kind : ℕ
  at_kind = L.link

  abbrev pub at_pad : ℕ
  at_pad = L.link + 1

  abbrev pub at_a : ℕ
  at_a = L.link + 1 + L.pad

  abbrev pub at_b : ℕ
  at_b = L.link + 1 + L.pad + 2

  abbrev pub at_label : ℕ
  at_label = L.link + 1 + L.pad + 4

  abbrev pub at_c : ℕ
  at_c = L.link + 1 + L.pad + 6

  abbrev pub width : ℕ
  width = L.link + 1 + L.pad + 10

-- version 1: records of 12 bytes, at most 256 of them, 3,072 bytes
abbrev pub v1 : Layout
v1 = record { link = 1; pad = 0; version = 1; records = 256; floors = false }

-- version 2: records of 14 bytes, at most 4,096 of them, 57,344 bytes; its header's tail are the floors (request 106)
abbrev pub v2 : Layout
v2 = record { link = 2; pad = 1; version = 2; records = 4096; floors = true }

abbrev pub layout_of : Version → Layout
layout_of One = v1
layout_of Two = v2

-- a layout whose links and count can say every index, and whose version is a byte
pub record Usable (L : Layout) : Type 0 where
  pub links : L.records ≤ 256 ^ L.link
  pub counts : L.records ≤ 65536
  pub versions : L.version < 256
