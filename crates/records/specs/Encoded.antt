-- A book as clauses see it: the layout of its version, and its bytes.
use Rattle.std.specs.Prelude.{ℕ, List}
use Rattle.records.specs.declared.Version.{Version}
use Rattle.records.specs.Layout.{Layout, layout_of}

pub record Encoded : Type 0 where
  pub layout : Layout
  pub bytes : List ℕ

abbrev pub encoded : Version → List ℕ → Encoded
encoded version bytes = record { layout = layout_of version; bytes = bytes }
