-- A text as the bytes of its characters, which are ASCII wherever it is used.
use mathlib.Core.List as L
use Rattle.std.specs.Prelude.{ℕ}
use Prim.Native.Char.{code}
use Prim.Native.String.{String, [], ◌∷◌}

abbrev pub text : String → L.List ℕ
text [] = L.[]
text (c ∷ s) = L.◌∷◌ (code c) (text s)
