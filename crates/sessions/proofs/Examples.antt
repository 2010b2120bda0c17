-- Refusals of small sessions and of a full one, computed: the definitions say what document 02 says of request 113.
use mathlib.Core.Path.{◌≡◌, refl}
use Prim.Native.Nat.{ℕ}
use lib.ListN.{replicate}
use lib.IntN.{ℤ, pos, negsuc}
use Rattle.records.specs.declared.Rule.{Rule}
use Rattle.records.specs.Record.{decoded_with}
use Rattle.book.specs.Reading.{memb}
use Rattle.std.proofs.Common.{Some, None}
use Rattle.answers.specs.Refusal.{refusal}
use Rattle.sessions.specs.declared.Session.{Session}
use Rattle.sessions.specs.Steps.{start_of, longer_by, shorter_by, starting, adding_refusal, withdrawing}

-- x + y ≤ 5 by its kind, its a and its label
abbrev rule : ℕ → ℤ → ℕ → Rule
rule kind a label = record { kind = kind; a = a; b = pos 1; c = pos 5; label = label }

-- the objective x + y with floors of 0, and one rule with label 7
abbrev blank : Session
blank = start_of (pos 1) (pos 1) (pos 0) (pos 0)

abbrev one : Session
one = longer_by blank (rule 1 (pos 1) 7)

-- 64 rules are held
abbrev full : Session
full = record { rules = replicate 64 (rule 1 (pos 1) 7); n = 64; terms = blank.terms }

-- ---- start

pub lawful-start : starting (pos 1) (negsuc 32766) ≡ None
lawful-start = refl

pub least-p : starting (negsuc 32767) (pos 1) ≡ Some (refusal 4 0)
least-p = refl

pub least-q : starting (pos 1) (negsuc 32767) ≡ Some (refusal 4 0)
least-q = refl

-- ---- add

pub second-rule : adding_refusal one (rule 2 (pos 1) 8) ≡ None
unfolding decoded_with memb
second-rule = refl

-- the number of rules held plus one is named
pub bad_kind : adding_refusal one (rule 3 (pos 1) 7) ≡ Some (refusal 8 2)
unfolding decoded_with memb
bad_kind = refl

-- 9 comes before 12, for a label that is held
pub bad-slope : adding_refusal one (rule 1 (negsuc 32767) 7) ≡ Some (refusal 9 2)
unfolding decoded_with memb
bad-slope = refl

pub label-again : adding_refusal one (rule 1 (pos 1) 7) ≡ Some (refusal 12 2)
unfolding decoded_with memb
label-again = refl

-- the label of a rule that was withdrawn is free
pub label-free : adding_refusal (shorter_by one) (rule 1 (pos 1) 7) ≡ None
unfolding decoded_with memb
label-free = refl

-- 18 comes before 8
pub full-first : adding_refusal full (rule 3 (pos 1) 8) ≡ Some (refusal 18 0)
unfolding decoded_with memb
full-first = refl

-- ---- withdraw

pub nothing-held : withdrawing blank ≡ Some (refusal 19 0)
nothing-held = refl

pub one-held : withdrawing one ≡ None
one-held = refl

pub blank-again : shorter_by one ≡ blank
blank-again = refl
