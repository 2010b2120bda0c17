-- What a code names and what a slot holds, from the code's tests on machine numbers; and the three slots as the list of shares.
use mathlib.Core.Path.{◌≡◌, refl, sym, ◌∙◌, ap, subst}
use mathlib.Core.List.{List}
use mathlib.Core.Bool.{true, false}
use Prim.Native.Nat.{ℕ, zero, suc, ◌-◌}
use native.Mathlib.Omega.{arith}
use lib.IntN.{ℤ, pos, nat_abs}
use lib.Signed.{lt_z, mag}
use mir.Syntax.{w64}
use mir.Val.{SFits}
use mir.Facts.{to_z-of_z}
use Rattle.ints.specs.Within.{Within}
use Rattle.ints.proofs.Machine.{within-read, within-add, within-mul, weaken}
use Rattle.ints.proofs.Bits.{read, below-zero, from_zero}
use Rattle.lp.specs.declared.Constraint.{Constraint}
use Rattle.lp.specs.declared.Floors.{Floors}
use Rattle.lp.specs.Program.{floor_x, floor_y}
use Rattle.std.specs.Prelude.{Some, None}
use Rattle.slip.specs.declared.named.Slot.{Slot}
use Rattle.slip.specs.declared.named.Slots.{Slots}
use Rattle.slip.specs.Facts.{Named, rule_in, entry_of, none, adding}
use Rattle.slip.specs.Slots.{slots_with, total_of, SmallSlots}
use Rattle.slip.specs.Runs.{Summed}
use Rattle.slip.proofs.Sizes.{within-unread}

module _ (floors : Floors) (records : List ℕ) (rules : List Constraint) (code : ℤ) (f : SFits w64 code) where
  pub below-names-nothing : lt_z (read code) (pos 0) ≡ true → None ≡ entry_of floors records rules code
  below-names-nothing t = sym (ap (entry_of floors records rules) (below-zero code f t))

  module _ (t : lt_z (read code) (pos 0) ≡ false) {m : ℕ} (e : m ≡ nat_abs (read code)) where
    code_is : code ≡ pos m
    code_is =
        let p : code ≡ pos (mag code) = from_zero code f t in
        p ∙ ap pos (sym (e ∙ ap nat_abs (to_z-of_z {w = w64} f ∙ p)))

    pub names_floor_x : m ≡ 0 → {r : Constraint} → r ≡ floor_x floors → Some r ≡ entry_of floors records rules code
    names_floor_x z er = ap Some er ∙ sym (ap (entry_of floors records rules) (code_is ∙ ap pos z))

    pub names_floor_y : m ≡ 1 → {r : Constraint} → r ≡ floor_y floors → Some r ≡ entry_of floors records rules code
    names_floor_y z er = ap Some er ∙ sym (ap (entry_of floors records rules) (code_is ∙ ap pos z))

    pub names-rule :
        (m ≡ 0 → ⊥) →
        (m ≡ 1 → ⊥) →
        {x : Named} →
        x ≡ rule_in records rules (m - 1) →
        x ≡ entry_of floors records rules code
    names-rule a b ex = ex ∙ go m a b ∙ sym (ap (entry_of floors records rules) code_is)
      where
        go : (m : ℕ) → (m ≡ 0 → ⊥) → (m ≡ 1 → ⊥) → rule_in records rules (m - 1) ≡ entry_of floors records rules (pos m)
        go zero a b = absurd (a refl)
        go (suc zero) a b = absurd (b refl)
        go (suc (suc q)) a b = ap (rule_in records rules) (less q)
          where
            less : (q : ℕ) → suc (suc q) - 1 ≡ suc q
            less q = omega arith

-- a code that a call took is read back from its bits
pub named-read : {code : ℤ} → SFits w64 code → (e : ℤ → Named) → {x : Named} → x ≡ e (read code) → x ≡ e code
named-read f e q = q ∙ ap e (to_z-of_z {w = w64} f)

pub slots_same : {a b c a' b' c' : Slot} → a ≡ a' → b ≡ b' → c ≡ c' → slots_with a b c ≡ slots_with a' b' c'
slots_same ea eb ec = λ i. slots_with (ea i) (eb i) (ec i)

-- ---- the sums of three slots stay within their sizes

none_within : {n : ℕ} → Within n (pos 0)
none_within {n} = record { small = omega arith }

pub summed_read : {w : ℤ} {r total : Constraint} → Summed w r total → Summed (read w) r total
summed_read s =
    record {
      weight = within-read s.weight tt;
      rule = s.rule;
      a_small = s.a_small;
      b-small = s.b-small;
      c-small = s.c-small;
    }

adding-read :
    {w : ℤ} →
    Within 2147352578 w →
    (r total : Constraint) →
    {x : Constraint} →
    x ≡ adding (read w) r total →
    x ≡ adding w r total
adding-read h r total e = e ∙ ap (λ w. adding w r total) (within-unread h tt)

module _ {s : Slots} (h : SmallSlots s) where
  abbrev last : Constraint
  last = adding s.third.weight s.third.rule none

  pub last_summed : Summed s.third.weight s.third.rule none
  last_summed =
      record {
        weight = h.third.weight;
        rule = h.third.rule;
        a_small = none_within;
        b-small = none_within;
        c-small = none_within;
      }

  pub second_summed : Summed s.second.weight s.second.rule last
  second_summed =
      record {
        weight = h.second.weight;
        rule = h.second.rule;
        a_small = weaken tt (within-add (within-mul h.third.weight h.third.rule.a_small) (none_within {n = 0}));
        b-small = weaken tt (within-add (within-mul h.third.weight h.third.rule.b-small) (none_within {n = 0}));
        c-small = weaken tt (within-add (within-mul h.third.weight h.third.rule.c-small) (none_within {n = 0}));
      }

  pub first_summed : Summed s.first.weight s.first.rule (adding s.second.weight s.second.rule last)
  first_summed =
      record {
        weight = h.first.weight;
        rule = h.first.rule;
        a_small =
            weaken tt
            (within-add (within-mul h.second.weight h.second.rule.a_small)
            (within-add (within-mul h.third.weight h.third.rule.a_small) (none_within {n = 0})));
        b-small =
            weaken tt
            (within-add (within-mul h.second.weight h.second.rule.b-small)
            (within-add (within-mul h.third.weight h.third.rule.b-small) (none_within {n = 0})));
        c-small =
            weaken tt
            (within-add (within-mul h.second.weight h.second.rule.c-small)
            (within-add (within-mul h.third.weight h.third.rule.c-small) (none_within {n = 0})));
      }

  pub last-added : {x : Constraint} → x ≡ adding (read s.third.weight) s.third.rule none → x ≡ last
  last-added e = adding-read h.third.weight s.third.rule none e

  pub second-added :
      {x y : Constraint} →
      x ≡ last →
      y ≡ adding (read s.second.weight) s.second.rule x →
      y ≡ adding s.second.weight s.second.rule last
  second-added {x} ex ey = adding-read h.second.weight s.second.rule x ey ∙ ap (adding s.second.weight s.second.rule) ex

  pub all-added :
      {y z : Constraint} →
      y ≡ adding s.second.weight s.second.rule last →
      z ≡ adding (read s.first.weight) s.first.rule y →
      z ≡ total_of s
  all-added {y} ey ez = adding-read h.first.weight s.first.rule y ez ∙ ap (adding s.first.weight s.first.rule) ey

  pub second_asks : {x : Constraint} → x ≡ last → Summed (read s.second.weight) s.second.rule x
  second_asks ex = summed_read (subst (Summed s.second.weight s.second.rule) (sym ex) second_summed)

  pub first_asks :
      {y : Constraint} →
      y ≡ adding s.second.weight s.second.rule last →
      Summed (read s.first.weight) s.first.rule y
  first_asks ey = summed_read (subst (Summed s.first.weight s.first.rule) (sym ey) first_summed)
