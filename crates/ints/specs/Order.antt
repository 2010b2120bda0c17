-- The library's orders of ℤ, at a fixity below the sum's: a +ℤ b ≤ᶻ c reads as it should.
use Rattle.std.specs.Prelude.{ℤ, ◌≤ℤ◌, ◌<ℤ◌}

infix 4 ◌≤ᶻ◌ ◌<ᶻ◌
abbrev pub ◌≤ᶻ◌ : ℤ → ℤ → Type 0
a ≤ᶻ b = a ≤ℤ b

abbrev pub ◌<ᶻ◌ : ℤ → ℤ → Type 0
a <ᶻ b = a <ℤ b
