-- Which records are not spare: the header, and what links lead to from there on.
use Rattle.std.specs.Prelude.{ℕ, List}
use Rattle.records.specs.Layout.{Layout}
use Rattle.records.specs.Record.{record_at, link_of}

pub data OnChain (L : Layout) (s : List ℕ) : ℕ → Type 0 where
  header : OnChain L s 0
  link : {at : ℕ} → OnChain L s at → OnChain L s (link_of L (record_at L s at))
