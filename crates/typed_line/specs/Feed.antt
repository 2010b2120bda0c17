-- The text of an input: all its bytes, or all but the last where that is a line feed, byte 10.
use Rattle.std.specs.Prelude.{List, cond, ℕ, ◌-◌, eqb, length, take, get_or}

-- an input without bytes has none that is a line feed
unfoldable pub without_feed : List ℕ → List ℕ
without_feed input = cond (eqb (get_or input (length input - 1) 0) 10) (take (length input - 1) input) input
