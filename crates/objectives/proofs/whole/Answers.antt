-- `objectives::whole` meets its contract: p and then q.
use mathlib.Core.Path.{◌∙◌}
use mir.Syntax.{w64}
use mir.Facts.{to_z-of_z}
use borrow.Author.Rules.{sfits_of}
use Rattle.objectives.proofs.whole.Goals as goal

pub returns : goal.returns
returns c =
    let p = to_z-of_z {w = w64} (sfits_of c.half.type_inv) ∙ c.half.ensures in
    let q = to_z-of_z {w = w64} (sfits_of c.half-2.type_inv) ∙ c.half-2.ensures in
    λ i. record { p = p i; q = q i }
