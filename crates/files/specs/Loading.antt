-- How many bytes a file gave: never more than the buffer has.
use Rattle.std.specs.Prelude.{ℕ, ◌≤◌, Option, Some, None}

abbrev pub Held : Option ℕ → ℕ → Type 0
Held None size = Unit {0}
Held (Some n) size = n ≤ size
