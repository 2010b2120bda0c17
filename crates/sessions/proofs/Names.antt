-- The names of the rules: after i turns the first i places have theirs, and after 64 all.
use mathlib.Core.Path.{◌≡◌, refl, sym, ◌∙◌, ap}
use mathlib.Core.List.{List}
use Prim.Native.Nat.{ℕ, ◌+◌}
use native.Mathlib.Numerals.{add-one}
use lib.ListN.{set}
use Rattle.sessions.specs.Laying.{positions, named_to}

pub named-next : (i : ℕ) {names : List ℕ} → names ≡ named_to i → set names i (i + 1) ≡ named_to (i + 1)
named-next i e =
    ap (λ (l : List ℕ). set l i (i + 1)) e ∙ ap (λ (k : ℕ). set (named_to i) i k) (add-one i) ∙ sym (ap named_to (add-one i))

pub all_named : named_to 64 ≡ positions 64
all_named = refl
