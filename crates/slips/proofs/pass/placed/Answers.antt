-- `slips::pass::placed` meets its contract: a tight entry, by its side of the objective.
use Rattle.slips.proofs.Sizes.{lt_z-read, lt_z-read-below}
use Rattle.slips.specs.Pass.{placed_of}
use Rattle.slips.proofs.pass.placed.Goals as goal

pub returns-then-det-gt0-2 : goal.returns-then-det-gt0-2
returns-then-det-gt0-2 c =
    let a = lt_z-read c.det.type_inv c.det.ensures c.if-det-gt0.true in
    let b = lt_z-read c.det-then-det-gt0.type_inv c.det-then-det-gt0.ensures c.if-det-gt0-2.true in
    rw (a, b, placed_of)

pub returns-then-det-gt0 : goal.returns-then-det-gt0
returns-then-det-gt0 c =
    let a = lt_z-read c.det.type_inv c.det.ensures c.if-det-gt0.true in
    let b = lt_z-read c.det-then-det-gt0.type_inv c.det-then-det-gt0.ensures c.if-det-gt0-2.false in
    rw (a, b, placed_of)

pub returns-then-det-gt0-3 : goal.returns-then-det-gt0-3
returns-then-det-gt0-3 c =
    let a = lt_z-read c.det.type_inv c.det.ensures c.if-det-gt0.false in
    let b = lt_z-read-below c.det-2.type_inv c.det-2.ensures c.if-det-lt0.true in
    let k = lt_z-read c.det-then-det-lt0.type_inv c.det-then-det-lt0.ensures c.if-det-gt0-3.true in
    rw (a, b, k, placed_of)

pub returns-then-det-lt0 : goal.returns-then-det-lt0
returns-then-det-lt0 c =
    let a = lt_z-read c.det.type_inv c.det.ensures c.if-det-gt0.false in
    let b = lt_z-read-below c.det-2.type_inv c.det-2.ensures c.if-det-lt0.true in
    let k = lt_z-read c.det-then-det-lt0.type_inv c.det-then-det-lt0.ensures c.if-det-gt0-3.false in
    rw (a, b, k, placed_of)

pub returns-then-dot-gt0 : goal.returns-then-dot-gt0
returns-then-dot-gt0 c =
    let a = lt_z-read c.det.type_inv c.det.ensures c.if-det-gt0.false in
    let b = lt_z-read-below c.det-2.type_inv c.det-2.ensures c.if-det-lt0.false in
    let k = lt_z-read c.dot.type_inv c.dot.ensures c.if-dot-gt0.true in
    rw (a, b, k, placed_of)

pub returns : goal.returns
returns c =
    let a = lt_z-read c.det.type_inv c.det.ensures c.if-det-gt0.false in
    let b = lt_z-read-below c.det-2.type_inv c.det-2.ensures c.if-det-lt0.false in
    let k = lt_z-read c.dot.type_inv c.dot.ensures c.if-dot-gt0.false in
    rw (a, b, k, placed_of)
