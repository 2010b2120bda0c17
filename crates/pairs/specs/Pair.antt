-- A pair and a direction as bytes: their numbers, each after one space. It rests on the parts of a line (`text`).
use Rattle.std.specs.Prelude.{List, ◌++◌, ℕ}
use Rattle.lp.specs.declared.Point.{Point}
use Rattle.lp.specs.declared.Ray.{Ray}
use Rattle.text.specs.Number.{integer}

-- X Y D
unfoldable pub pair : Point → List ℕ
pair v = integer v.x ++ (integer v.y ++ integer v.d)

-- dx dy
unfoldable pub direction : Ray → List ℕ
direction d = integer d.dx ++ integer d.dy
