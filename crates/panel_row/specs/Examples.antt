-- Rows of a panel with their lines, spelt out: label, numerator and denominator of the slack.
use Rattle.std.specs.Prelude.{List, [], ◌∷◌, ℕ, ℤ, pos, negsuc}
use Prim.Native.String.{String}
use Rattle.panel_row.specs.declared.Row.{Row}

abbrev slack : ℕ → ℤ → ℤ → Row
slack label numerator denominator = record { label = label; slack = record { numerator = numerator; denominator = denominator } }

abbrev pub rows : List Row
rows =
    slack 7 (pos 0) (pos 1)
    ∷ slack 300 (pos 9) (pos 5)
    ∷ slack 65535 (negsuc 11) (pos 7)
    ∷ slack 1 (pos 6442057732999967233) (pos 2147352577)
    ∷ slack 2 (negsuc 6442057732999967232) (pos 2147352577)
    ∷ []

abbrev pub rows_spelt : String
rows_spelt = "7 0 1\n300 9 5\n65535 -12 7\n1 6442057732999967233 2147352577\n2 -6442057732999967233 2147352577\n"
