-- What a function that puts bytes into a line promises: of the line's buffer and place what Append says of any, and that the line keeps
-- the buffer that it was lent, of whatever size. It rests on Append.
use Rattle.std.specs.Prelude.{◌≡◌, List, ℕ, length}
use Rattle.text.specs.declared.Line.{Line}
use Rattle.text.specs.Append.{HasRoom, Appended, Appends}

-- the line's buffer has room for so many bytes more
pub record RoomIn (l : Line) (room : ℕ) : Type 0 where
  pub has : HasRoom l.out.now l.at room

-- the bytes were added to a line that has room for them
pub record Added (l : Line) (bytes : List ℕ) (room : ℕ) (m : Line) : Type 0 where
  pub appended : Appended l.out.now l.at bytes room m.out.now m.at
  pub lent : m.out.ghost_name ≡ l.out.ghost_name
  pub sized : length m.out.now ≡ length l.out.now

-- the bytes were added to a line of any buffer and at any place: one without room is as it was
pub record Adds (l : Line) (bytes : List ℕ) (room : ℕ) (m : Line) : Type 0 where
  pub appends : Appends l.out.now l.at bytes room m.out.now m.at
  pub lent : m.out.ghost_name ≡ l.out.ghost_name
  pub sized : length m.out.now ≡ length l.out.now
