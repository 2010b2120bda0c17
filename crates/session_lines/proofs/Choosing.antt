-- The line: its first word chooses the step.
use mathlib.Core.Path.{◌≡◌, ap, sym, ◌∙◌}
use mathlib.Core.Bool.{Bool, true, false, cond, ◌&&◌}
use mathlib.Core.List.{List}
use Prim.Native.Nat.{ℕ}
use lib.Dec.{eqb}
use lib.ListN.{length, drop}
use Rattle.text.specs.Text.{text}
use Rattle.session_lines.specs.declared.Asked.{Asked}
use Rattle.session_lines.specs.declared.Asked.TheVariants.{Back}
use Rattle.std.specs.Prelude.{Option, Some, None}
use Rattle.session_lines.specs.Lines.{begins, start_in, typed_in, rule_in, back_in, ruled_in, added_in, line_in}

chosen : (t : Bool) (x y : Option Asked) {s : Bool} {a : Option Asked} → s ≡ t → s ≡ true → a ≡ x → a ≡ cond t x y
chosen t x y f e z = z ∙ sym (ap (λ (u : Bool). cond u x y) (sym f ∙ e))

passed : (t : Bool) (x y : Option Asked) {s : Bool} {a : Option Asked} → s ≡ t → s ≡ false → a ≡ y → a ≡ cond t x y
passed t x y f e z = z ∙ sym (ap (λ (u : Bool). cond u x y) (sym f ∙ e))

module _ (l : List ℕ) {s : Bool} (f : s ≡ begins (text "start") l) where
  pub starts : s ≡ true → {a : Option Asked} → a ≡ start_in (drop 5 l) → a ≡ line_in l
  unfolding line_in
  starts e z = chosen (begins (text "start") l) (start_in (drop 5 l)) (added_in l) f e z

  module _ (no_start : s ≡ false) where
    on : {a : Option Asked} → a ≡ added_in l → a ≡ line_in l
    unfolding line_in
    on z = passed (begins (text "start") l) (start_in (drop 5 l)) (added_in l) f no_start z

    module _ {t : Bool} (g : t ≡ begins (text "add") l) where
      pub adds : t ≡ true → {a : Option Asked} → a ≡ typed_in (drop 3 l) → a ≡ line_in l
      adds e z = on (chosen (begins (text "add") l) (typed_in (drop 3 l)) (ruled_in l) g e z)

      module _ (no_add : t ≡ false) {r : Bool} (h : r ≡ begins (text "rule") l) where
        pub rules : r ≡ true → {a : Option Asked} → a ≡ rule_in (drop 4 l) → a ≡ line_in l
        rules e z =
            on (passed (begins (text "add") l) (typed_in (drop 3 l)) (ruled_in l) g no_add
            (chosen (begins (text "rule") l) (rule_in (drop 4 l)) (back_in l) h e z))

        module _ (no-rule : r ≡ false) {b : Bool} (k : b ≡ begins (text "back") l && eqb (length l) 4) where
          last : {a : Option Asked} → a ≡ back_in l → a ≡ line_in l
          last z =
              on (passed (begins (text "add") l) (typed_in (drop 3 l)) (ruled_in l) g no_add
              (passed (begins (text "rule") l) (rule_in (drop 4 l)) (back_in l) h no-rule z))

          pub goes_back : b ≡ true → Some Back ≡ line_in l
          goes_back e = last (sym (ap (λ (u : Bool). cond u (Some Back) None) (sym k ∙ e)))

          pub other : b ≡ false → None ≡ line_in l
          other e = last (sym (ap (λ (u : Bool). cond u (Some Back) None) (sym k ∙ e)))
