-- The language, read exactly. A text is answered with the value of the one lawful tree that spells it, or there is no such tree and it
-- is answered with the flaw of a text.
use mathlib.Core.Path.{◌≡◌, refl, ap, sym, ◌∙◌, subst}
use mathlib.Core.Logic.{◌⊎◌, inl, inr}
use mathlib.Core.Bool.{Bool, true, false, cond}
use mathlib.Core.List.{List, []}
use Prim.Native.Nat.{ℕ, ◌≤◌}
use native.Mathlib.Omega.{arith}
use lib.Dec.{leb}
use lib.ListN.{length}
use borrow.Author.Tests.{leb-true, leb-false, le-leb}
use Rattle.language.specs.Grammar.{Rule, spell, LawfulRule}
use Rattle.forms.specs.declared.Flaw.TheVariants.{Text}
use Rattle.forms.specs.Value.{no_rule}
use Rattle.language.specs.Value.{value_rule}
use Rattle.language.specs.Parser.{Parsed, fail, got, parse, judged, answer}
use Rattle.language.proofs.Sound.{SoundRule, parse-sound}
use Rattle.language.proofs.Complete.{parse_complete}

-- what a lawful tree spells is answered with the tree's value
pub answered : (r : Rule) → LawfulRule r → answer (spell r) ≡ value_rule r
unfolding answer
answered r l =
    ap (λ (t : Bool). cond t (judged (parse (spell r))) (no_rule Text)) (le-leb (length (spell r)) 120 l.short)
    ∙ ap judged (parse_complete r l.left l.right)

-- a text of the language: the tree that spells it, and the answer
pub record Reads (s : List ℕ) : Type 0 where
  pub tree : Rule
  pub lawful : LawfulRule tree
  pub text : s ≡ spell tree
  pub answer : answer s ≡ value_rule tree

-- a text that no lawful tree spells
pub record Refuses (s : List ℕ) : Type 0 where
  pub nothing : (r : Rule) → LawfulRule r → s ≡ spell r → ⊥
  pub answer : answer s ≡ no_rule Text

too_long : (s : List ℕ) → leb (length s) 120 ≡ false → (r : Rule) → LawfulRule r → s ≡ spell r → ⊥
too_long s e r l p = absurd (omega (arith, leb-false (length s) 120 e, ap length p, l.short))

unspelt : (s : List ℕ) → parse s ≡ fail → (r : Rule) → LawfulRule r → s ≡ spell r → ⊥
unspelt s e r l p =
    let c : ◌≡◌ {A = Parsed Rule} fail (got r []) = sym e ∙ ap parse p ∙ parse_complete r l.left l.right in
    let z : ◌≡◌ {A = ℕ} 0 1 = cc in
    omega arith

-- every text is one or the other
pub language : (s : List ℕ) → Reads s ⊎ Refuses s
unfolding answer
language s = go (leb (length s) 120) refl (parse s) refl (parse-sound s)
  where
    go : (t : Bool) → leb (length s) 120 ≡ t → (p : Parsed Rule) → parse s ≡ p → SoundRule s p → Reads s ⊎ Refuses s
    go true e fail f h = inr (record { nothing = unspelt s f; answer = rw (e, f) })
    go true e (got r q) f h =
        inl
        (record {
          tree = r;
          lawful =
              record {
                left = h.left;
                right = h.right;
                short = subst (λ (w : List ℕ). length w ≤ 120) h.text
                    (leb-true (length s) 120 e);
              };
          text = h.text;
          answer = rw (e, f);
        })
    go false e fail f h = inr (record { nothing = too_long s e; answer = rw e })
    go false e (got r q) f h = inr (record { nothing = too_long s e; answer = rw e })
