-- `corner_line::append_first` meets its contract. The sign's test says which of the two spellings the number has.
use mathlib.Core.Path.{sym, subst}
use mathlib.Core.List.{[]}
use native.Mathlib.Omega.{arith}
use Rattle.text.specs.Text.{text}
use Rattle.text.specs.Line.{Added}
use Rattle.text.proofs.Adding.{free, fits, followed, spelt, adds, nothing}
use Rattle.corner_line.proofs.Signed.{with_minus, without_sign}
use Rattle.corner_line.proofs.append_first.Goals as goal
use Rattle.corner_line.proofs.append_first.Goals.{then-z-lt0, else-z-lt0}

pub returns : goal.returns
returns c =
    let l = c.args.line.now in
    let n = c.magnitude in
    let room = free l 21 c.lacks_room.ensures c.if-lacks_room.false in
    elim c.if-z-lt0.branch [
      | then-z-lt0 w ↦
          let sign : Added l (text "-") 1 c.if-z-lt0.line =
          subst (Added l (text "-") 1) (sym w.line-is) (fits (omega arith) w.append_word.ensures) in
          let digits = fits (omega (arith, sign.appended.moved, sign.sized)) c.append_decimal.ensures in
          adds room (spelt (with_minus c.args.z n.result c.ranges.z n.ensures w.if-z-lt0.true) (followed sign digits))
      | else-z-lt0 w ↦
          let same : Added l [] 1 c.if-z-lt0.line = subst (Added l [] 1) (sym w.line-is) (nothing l 1) in
          let digits = fits (omega (arith, same.appended.moved, same.sized)) c.append_decimal.ensures in
          adds room (spelt (without_sign c.args.z n.result c.ranges.z n.ensures w.if-z-lt0.false) (followed same digits))
    ]
