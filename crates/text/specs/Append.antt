-- What a function that puts bytes into a lent buffer promises: they stand there from a place on, and nothing else of it changes; where
-- the buffer has no room, all of it is as it was. It rests on lists alone.
use Rattle.std.specs.Prelude.{◌≡◌, List, ◌++◌, ℕ, ◌+◌, ◌≤◌, ◌<◌, length, drop}
use Rattle.std.proofs.lemmas.List.Edits.{sets}

-- the buffer has room for so many bytes from a place on
pub record HasRoom (out : List ℕ) (at room : ℕ) : Type 0 where
  pub free : at + room ≤ length out

-- and for a number of two digits
pub record HasRoomForTwo (n : ℕ) (out : List ℕ) (at : ℕ) : Type 0 where
  pub small : n < 100
  pub free : at + 2 ≤ length out

-- the bytes stand in the buffer from a place on, and what is handed back is the place after them; they took no more than the room
pub record Appended (before : List ℕ) (at : ℕ) (bytes : List ℕ) (room : ℕ) (after : List ℕ) (next : ℕ) : Type 0 where
  pub stored : after ≡ sets before at bytes
  pub moved : next ≡ at + length bytes
  pub small : length bytes ≤ room

-- bytes appended to a lent buffer that may be of any size, from any place on: where it has no room, it is left as it was, and the
-- place handed back
pub record Appends (before : List ℕ) (at : ℕ) (bytes : List ℕ) (room : ℕ) (after : List ℕ) (next : ℕ) : Type 0 where
  pub fits : at + room ≤ length before → Appended before at bytes room after next
  pub untouched : length before < at + room → after ≡ before
  pub stays : length before < at + room → next ≡ at

-- a text written to a lent buffer: one below the room is left as it was, and 0 handed back; else the text stands at its start, every byte
-- after it is as it was, and its length is handed back
pub record Fills (line : List ℕ) (room : ℕ) (before after : List ℕ) (count : ℕ) : Type 0 where
  pub untouched : length before < room → after ≡ before
  pub nothing : length before < room → count ≡ 0
  pub stands : room ≤ length before → after ≡ line ++ drop (length line) before
  pub counted : room ≤ length before → count ≡ length line
  pub enough : count ≤ room
