-- `engine::start::resettled` meets its contract: the tightest point on the line, if it keeps every entry.
use mathlib.Core.Path.{sym, ◌∙◌}
use Rattle.engine.proofs.Passes.{found-parts, broken-small}
use Rattle.engine.proofs.start.resettled.Goals as goal

pub first_broken-requires : goal.first_broken-requires
first_broken-requires c =
    record { entries = c.requires.entries; point = (found-parts c.requires.found-small c.in-Some.is).1 }

pub conflict-requires : goal.conflict-requires
conflict-requires c =
    record {
      h-small = c.requires.h-small;
      k-small = (found-parts c.requires.found-small c.in-Some.is).0;
      m-small =
          broken-small c.requires.entries c.in-Some.met.point
          c.first_broken.ensures c.in-Some-first_broken.is;
    }

pub returns-in-None : goal.returns-in-None
returns-in-None c = rw (c.in-None.is, c.alone.ensures)

pub returns-in-None-first_broken : goal.returns-in-None-first_broken
returns-in-None-first_broken c =
    rw (
      c.in-Some.is,
      sym c.first_broken.ensures ∙ c.in-None-first_broken.is,
      c.reduce.ensures,
    )

pub returns-in-Some-first_broken : goal.returns-in-Some-first_broken
returns-in-Some-first_broken c =
    rw (
      c.in-Some.is,
      sym c.first_broken.ensures ∙ c.in-Some-first_broken.is,
      c.conflict.ensures,
    )
