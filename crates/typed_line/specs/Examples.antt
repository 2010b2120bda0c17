-- What typed texts read as, with their lines spelt out: the sense, a, b and c, or the refusal.
use Rattle.std.specs.Prelude.{List, [], ◌∷◌, ℤ, pos, negsuc, Ok}
use Prim.Native.String.{String}
use Rattle.forms.specs.declared.Sense.{Sense}
use Rattle.forms.specs.declared.Sense.TheVariants.{AtMost, AtLeast}
use Rattle.forms.specs.declared.Flaw.TheVariants.{Text, Product, Size}
use Rattle.forms.specs.Value.{Typed, no_rule}

pub record Example : Type 0 where
  pub typed : Typed
  pub line : String

abbrev rule : Sense → ℤ → ℤ → ℤ → Typed
rule sense a b c = Ok (record { sense = sense; a = a; b = b; c = c })

abbrev pub examples : List Example
examples =
    record { typed = rule AtMost (pos 1) (pos 5) (pos 40); line = "rule 1 1 5 40\n" }
    ∷ record { typed = rule AtLeast (negsuc 32766) (pos 0) (negsuc 999999999); line = "rule 2 -32767 0 -1000000000\n" }
    ∷ record { typed = no_rule Text; line = "refused 13 0\n" }
    ∷ record { typed = no_rule Product; line = "refused 14 0\n" }
    ∷ record { typed = no_rule Size; line = "refused 15 0\n" }
    ∷ []
