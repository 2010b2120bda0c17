-- Bytes added to a line: what the lemmas of buffers (Put) say of a line's buffer and place, with the buffer that the line keeps.
use mathlib.Core.Path.{◌≡◌, refl, subst, ◌∙◌}
use mathlib.Core.List.{List, [], ◌++◌}
use mathlib.Core.Bool.{Bool, false}
use Prim.Native.Nat.{ℕ, ◌+◌, ◌≤◌}
use lib.Dec.{ltb}
use lib.ListN.{length}
use Rattle.text.specs.declared.Line.{Line}
use Rattle.text.specs.Append.{Appended, Fills}
use Rattle.text.specs.Line.{Added, Adds}
use Rattle.text.proofs.Put as put

-- ---- to a line with room

-- what two functions add in turn
pub followed : {l m n : Line} {u v : List ℕ} {i j : ℕ} → Added l u i m → Added m v j n → Added l (u ++ v) (i + j) n
followed f g = record { appended = put.followed f.appended g.appended; lent = g.lent ∙ f.lent; sized = g.sized ∙ f.sized }

-- in more room than was taken
pub roomier : {l m : Line} {u : List ℕ} {i j : ℕ} → i ≤ j → Added l u i m → Added l u j m
roomier h f = record { appended = put.roomier h f.appended; lent = f.lent; sized = f.sized }

-- as other words for the same bytes
pub spelt : {l m : Line} {u v : List ℕ} {i : ℕ} → u ≡ v → Added l u i m → Added l v i m
spelt e f = record { appended = put.spelt e f.appended; lent = f.lent; sized = f.sized }

-- with no room to spare
pub exactly : {l m : Line} {u v : List ℕ} {i : ℕ} → u ≡ v → Added l u i m → Added l v (length v) m
exactly e f = record { appended = put.exactly e f.appended; lent = f.lent; sized = f.sized }

pub nothing : (l : Line) (room : ℕ) → Added l [] room l
nothing l room = record { appended = put.nothing l.out.now l.at room; lent = refl; sized = refl }

-- by a function that adds to any line
pub fits : {l m : Line} {u : List ℕ} {i : ℕ} → l.at + i ≤ length l.out.now → Adds l u i m → Added l u i m
fits h f = record { appended = f.appends.fits h; lent = f.lent; sized = f.sized }

-- ---- to any line: the test of its room is handed in as a Bool

-- one that doesn't lack it has so much free
pub free : (l : Line) (room : ℕ) {b : Bool} → b ≡ ltb (length l.out.now) (l.at + room) → b ≡ false → l.at + room ≤ length l.out.now
free l room {b} = put.free l.out.now l.at room b

pub adds : {l m : Line} {u : List ℕ} {room : ℕ} → l.at + room ≤ length l.out.now → Added l u room m → Adds l u room m
adds h f = record { appends = put.appends h f.appended; lent = f.lent; sized = f.sized }

-- ---- to a line that is the whole of a buffer lent to a function

-- where what the buffer holds after the function is what the line holds
pub filled : {line after : List ℕ} {l m : Line} {room small : ℕ} →
    room ≤ length l.out.now →
    small ≤ room →
    l.at ≡ 0 →
    m.out.now ≡ after →
    Added l line small m →
    Fills line room l.out.now after m.at
filled {line} {after} {l} {m} {room} {small} h k z e f =
    put.filled h k
    (subst (λ (at : ℕ). Appended l.out.now at line small after m.at) z
    (subst (λ (s : List ℕ). Appended l.out.now l.at line small s m.at) e f.appended))
