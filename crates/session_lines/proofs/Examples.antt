-- Lines and what they ask for, worked out by the definitions: numbers at the ends of their ranges and one beyond, a minus, zeros in front,
-- a space too many, and a word that goes on.
use mathlib.Core.Path.{◌≡◌, refl}
use lib.IntN.{pos, negsuc}
use Rattle.text.specs.Text.{text}
use Rattle.text.specs.Number.{value_from}
use Rattle.scanning.specs.Bytes.{run, past}
use Rattle.std.specs.Prelude.{Some, None}
use Rattle.session_lines.specs.declared.Asked.TheVariants.{Begin, Add, Back}
use Rattle.session_lines.specs.Fields.{numeral_of, number_with, number_in, past_field, fits}
use Rattle.session_lines.specs.Lines.{begun_of, start_in, rule_of, rule_in, line_in}

start-line : line_in (text "start 32767 -32768 0 007") ≡
    Some (Begin (record { p = pos 32767; q = negsuc 32767; lx = pos 0; ly = pos 7 }))
unfolding line_in start_in begun_of number_in number_with numeral_of past_field fits run past value_from
start-line = refl

start-beyond : line_in (text "start 32768 0 0 0") ≡ None
unfolding line_in start_in begun_of number_in number_with numeral_of past_field fits run past value_from
start-beyond = refl

start-short : line_in (text "start 1 1 0") ≡ None
unfolding line_in start_in begun_of number_in number_with numeral_of past_field fits run past value_from
start-short = refl

start_spaced : line_in (text "start 1 1 0  0") ≡ None
unfolding line_in start_in begun_of number_in number_with numeral_of past_field fits run past value_from
start_spaced = refl

rule-line : line_in (text "rule 1 3 -1 2147483647 65535") ≡
    Some (Add (record { kind = 1; a = pos 3; b = negsuc 0; c = pos 2147483647; label = 65535 }))
unfolding line_in rule_in rule_of number_in number_with numeral_of past_field fits run past value_from
rule-line = refl

rule-beyond : line_in (text "rule 256 3 -1 9 1") ≡ None
unfolding line_in rule_in rule_of number_in number_with numeral_of past_field fits run past value_from
rule-beyond = refl

back-line : line_in (text "back") ≡ Some Back
unfolding line_in
back-line = refl

backwards : line_in (text "backwards") ≡ None
unfolding line_in
backwards = refl
