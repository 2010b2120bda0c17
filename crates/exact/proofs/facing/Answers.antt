-- `exact::facing` meets its contract.
use mathlib.Core.Path.{◌≡◌, ◌∙◌, ap, sym}
use Rattle.std.proofs.Common.{rules, false}
use Rattle.std.proofs.lemmas.Int.{wraps}
use Rattle.exact.specs.Turned.{facing}
use Rattle.exact.specs.Wrapped.{wrapped_constraint}
use Rattle.exact.proofs.facing.Goals as goal

pub returns : goal.returns
returns c =
    (let e : _ ≡ wrapped_constraint (facing false c.args.h) = search (wraps, rules) in e)
    ∙ ap (λ t. wrapped_constraint (facing t c.args.h)) (sym c.if-side.false)
