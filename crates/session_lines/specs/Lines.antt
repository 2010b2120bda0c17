-- What a line asks for: `start P Q LX LY`, `add LABEL RULE`, `rule KIND A B C LABEL` or `back`. P, Q, LX, LY, A and B have 16 bits with a
-- sign, C has 32, KIND 8 and LABEL 16 without one; RULE is read by the language of typed rules (`language`), its space with it. Any other
-- text asks for nothing.
use Rattle.std.specs.Prelude.{Bool, true, cond, ◌&&◌, List, [], ◌∷◌, ℕ, eqb, length, drop, Option, Some, None, Ok, Err}
use Rattle.text.specs.Text.{text}
use Rattle.records.specs.declared.Rule.{Rule}
use Rattle.forms.specs.declared.Sense.{Sense}
use Rattle.forms.specs.declared.Written.{Written}
use Rattle.forms.specs.Value.{Typed, kind_of, refusal_of}
use Rattle.scanning.specs.Bytes.{first, tail}
use Rattle.language.specs.Parser.{answer}
use Rattle.session_lines.specs.declared.numbers.Number.{Number}
use Rattle.session_lines.specs.declared.Asked.{Asked}
use Rattle.session_lines.specs.declared.Asked.TheVariants.{Begin, Add, Turn, Back}
use Rattle.session_lines.specs.Fields.{number_in, past_field, fits, value_of, size_of}

-- whether a text begins with a word
abbrev pub begins : List ℕ → List ℕ → Bool
begins [] l = true
begins (b ∷ word) l = eqb (first l) b && begins word (tail l)

abbrev pub sixteens : Option Number → Bool
sixteens n = fits 32768 32767 n

-- ---- `start`, behind its word

unfoldable pub begun_of : Option Number → Option Number → Option Number → Option Number → Option Asked
begun_of p q lx ly =
    cond ((sixteens p && sixteens q) && (sixteens lx && sixteens ly))
    (Some (Begin (record { p = value_of p; q = value_of q; lx = value_of lx; ly = value_of ly }))) None

-- nothing stands behind a line's last number
abbrev pub ended : List ℕ → Option Asked → Option Asked
ended rest a = cond (eqb (length rest) 0) a None

unfoldable pub start_in : List ℕ → Option Asked
start_in l =
    let q = past_field l in
    let lx = past_field q in
    let ly = past_field lx in
    ended (past_field ly) (begun_of (number_in l) (number_in q) (number_in lx) (number_in ly))

-- ---- `rule`

unfoldable pub rule_of : Option Number → Option Number → Option Number → Option Number → Option Number → Option Asked
rule_of kind a b c label =
    cond ((sixteens a && sixteens b && fits 2147483648 2147483647 c) && (fits 0 255 kind && fits 0 65535 label))
    (Some (Add (record { kind = size_of kind; a = value_of a; b = value_of b; c = value_of c; label = size_of label }))) None

unfoldable pub rule_in : List ℕ → Option Asked
rule_in l =
    let a = past_field l in
    let b = past_field a in
    let c = past_field b in
    let label = past_field c in
    ended (past_field label) (rule_of (number_in l) (number_in a) (number_in b) (number_in c) (number_in label))

-- ---- `add`

abbrev pub written_of : ℕ → Written Sense → Rule
written_of label w = record { kind = kind_of w.sense; a = w.a; b = w.b; c = w.c; label = label }

abbrev pub read_as : ℕ → Typed → Asked
read_as label (Ok w) = Add (written_of label w)
read_as label (Err e) = Turn (refusal_of e)

unfoldable pub typed_of : ℕ → List ℕ → Asked
typed_of label rule = read_as label (answer rule)

unfoldable pub typed_in : List ℕ → Option Asked
typed_in l =
    cond (fits 0 65535 (number_in l) && eqb (first (past_field l)) 32) (Some (typed_of (size_of (number_in l)) (past_field l))) None

-- ---- the line

abbrev pub back_in : List ℕ → Option Asked
back_in l = cond (begins (text "back") l && eqb (length l) 4) (Some Back) None

abbrev pub ruled_in : List ℕ → Option Asked
ruled_in l = cond (begins (text "rule") l) (rule_in (drop 4 l)) (back_in l)

abbrev pub added_in : List ℕ → Option Asked
added_in l = cond (begins (text "add") l) (typed_in (drop 3 l)) (ruled_in l)

unfoldable pub line_in : List ℕ → Option Asked
line_in l = cond (begins (text "start") l) (start_in (drop 5 l)) (added_in l)
