-- The three slots say what the list of shares says: they are sound exactly if every share is in range and none is named twice, and then
-- they have the same sums and are tight at the same pairs. By cases on which slots count, and on each test.
use mathlib.Core.Path.{◌≡◌, refl, sym, ◌∙◌, ap, subst}
use mathlib.Core.List.{List, [], ◌∷◌}
use mathlib.Core.Bool.{Bool, true, false, not, cond, ◌&&◌, ◌||◌}
use Prim.Native.Nat.{ℕ, zero, suc}
use lib.Dec.{T, eqb}
use lib.IntN.{ℤ, pos, negsuc, ◌+ℤ◌, ◌-ℤ◌, ◌*ℤ◌}
use lib.Signed.{le_z, lt_z, le_z_yes}
use Rattle.ints.specs.Within.{Within}
use Rattle.ints.proofs.Order.{le_trans}
use Rattle.ints.proofs.Ring.{ring, ◌⊕◌, ◌⊖◌, ◌⊗◌, ◌≐◌, con}
use Rattle.ints.proofs.Machine.{within_range, within_neg, within-numeral, weaken}
use Rattle.lp.specs.declared.Constraint.{Constraint}
use Rattle.lp.specs.declared.Floors.{Floors}
use Rattle.lp.specs.declared.Terms.{Terms}
use Rattle.lp.specs.declared.Point.{Point}
use Rattle.lp.specs.Program.{slack, floor_x, floor_y}
use Rattle.lp.specs.Outcome.{every}
use Rattle.lp.specs.Range.{SmallConstraint, SmallSystem, SmallFloors}
use Rattle.lp.specs.Certificate.{is_zero, greatest_weight}
use Rattle.lp.specs.Document.{same}
use Rattle.slip.specs.declared.Weights.{Weights}
use Rattle.std.specs.Prelude.{Some, None}
use Rattle.slip.specs.declared.named.Slots.{Slots}
use Rattle.slip.specs.Facts.{Named, Share, share, shares, distinct, none, weight_in_range}
use Rattle.slip.specs.Facts.{entry_of, rule_in, is_entry, entry_rule, share_in_range, sums, tight_all}
use Rattle.slip.specs.Slots.{slot_with, slots_with, blank_of, weighed_of, slot_of, slots_of, apart_of, sound_of, total_of, tight_of}
use Rattle.slip.specs.Slots.{one, two, three, SmallSlot, SmallSlots}

-- ---- tests

pub both : (s t : Bool) → (s && t) ≡ true → (s ≡ true) × (t ≡ true)
both true t e = (refl, e)
both false t e = absurd (subst T (sym e) tt)

and-false : (b : Bool) → false ≡ (b && false)
and-false true = refl
and-false false = refl

-- ---- one slot

weighed-sound : (e : Named) (w : ℤ) → (weighed_of e w).sound ≡ (weight_in_range w && is_entry e)
weighed-sound None w = and-false (weight_in_range w)
weighed-sound (Some r) w = go (weight_in_range w)
  where
    go : (b : Bool) → (cond b (slot_with true r w) (blank_of false)).sound ≡ (b && true)
    go true = refl
    go false = refl

-- a sound slot holds its entry's rule and its weight
weighed-holds : (e : Named) (w : ℤ) → (weighed_of e w).sound ≡ true → weighed_of e w ≡ slot_with true (entry_rule e) w
weighed-holds None w h = absurd (subst T (sym h) tt)
weighed-holds (Some r) w h = go (weight_in_range w) h
  where
    go : (b : Bool) → (cond b (slot_with true r w) (blank_of false)).sound ≡ true →
        cond b (slot_with true r w) (blank_of false) ≡ slot_with true r w
    go true h = refl
    go false h = absurd (subst T (sym h) tt)

-- ---- all three: b₁, b₂ and b₃ say how far the count goes

-- every test of the shares, and the three comparisons
abbrev sound_tests : (b₁ b₂ b₃ t₁ t₂ t₃ q₁₂ q₁₃ q₂₃ : Bool) → Bool
sound_tests b₁ b₂ b₃ t₁ t₂ t₃ q₁₂ q₁₃ q₂₃ =
    cond b₁ t₁ true && cond (b₁ && b₂) t₂ true && cond (b₁ && b₂ && b₃) t₃ true
    && not (b₁ && b₂ && q₁₂ || b₁ && b₂ && b₃ && q₁₃ || b₁ && b₂ && b₃ && q₂₃)

module _ (test : Share → Bool) (s₁ s₂ s₃ : Share) where
  abbrev listed : (b₁ b₂ b₃ : Bool) → List Share
  listed b₁ b₂ b₃ = cond b₁ (s₁ ∷ cond b₂ (s₂ ∷ cond b₃ (s₃ ∷ []) []) []) []

  sound-tests : (b₁ b₂ b₃ : Bool) →
      sound_tests b₁ b₂ b₃ (test s₁) (test s₂) (test s₃) (same s₁.code s₂.code) (same s₁.code s₃.code)
      (same s₂.code s₃.code)
      ≡ (every test (listed b₁ b₂ b₃) && distinct (listed b₁ b₂ b₃))
  sound-tests false b₂ b₃ = refl
  sound-tests true false b₃ = go (test s₁)
    where
      go : (t : Bool) → (t && true && true && true) ≡ (elim t [ true ↦ true | false ↦ false ] && true)
      go true = refl
      go false = refl
  sound-tests true true false = go (test s₁) (test s₂) (same s₁.code s₂.code)
    where
      go : (t u q : Bool) →
          (t && u && true && not (q || false || false))
          ≡ (elim t [ true ↦ elim u [ true ↦ true | false ↦ false ] | false ↦ false ]
          && (elim (not q) [ true ↦ true | false ↦ false ] && true))
      go false u q = refl
      go true false q = refl
      go true true true = refl
      go true true false = refl
  sound-tests true true true =
      go (test s₁) (test s₂) (test s₃) (same s₁.code s₂.code) (same s₁.code s₃.code) (same s₂.code s₃.code)
    where
      go : (t u v q r s : Bool) →
          (t && u && v && not (q || r || s))
          ≡ (elim t [ true ↦ elim u [ true ↦ elim v [ true ↦ true | false ↦ false ] | false ↦ false ] | false ↦ false ]
          && (elim (not q) [ true ↦ elim (not r) [ true ↦ true | false ↦ false ] | false ↦ false ]
          && (elim (not s) [ true ↦ true | false ↦ false ] && true)))
      go false u v q r s = refl
      go true false v q r s = refl
      go true true false q r s = refl
      go true true true true r s = refl
      go true true true false true s = refl
      go true true true false false true = refl
      go true true true false false false = refl

-- what a slot tests, where it counts
slot_sound : (b : Bool) (e : Named) (w : ℤ) → (slot_of b e w).sound ≡ cond b (weight_in_range w && is_entry e) true
slot_sound true e w = weighed-sound e w
slot_sound false e w = refl

-- where a slot counts and is sound, it holds its entry
slot_holds : (e : Named) (w : ℤ) → (slot_of true e w).sound ≡ true → slot_of true e w ≡ slot_with true (entry_rule e) w
slot_holds e w h = weighed-holds e w h

-- nothing is tight everywhere
none-tight : (v : Point) → is_zero (slack none v) ≡ true
none-tight v = ap is_zero (nought v.x v.y v.d)
  where
    nought : (x y d : ℤ) → pos 0 *ℤ d -ℤ (pos 0 *ℤ x +ℤ pos 0 *ℤ y) ≡ pos 0
    nought = ring 3 (λ x y d. con (pos 0) ⊗ d ⊖ (con (pos 0) ⊗ x ⊕ con (pos 0) ⊗ y) ≐ con (pos 0)) refl

abbrev zero_at : Point → Constraint → Bool
zero_at v r = is_zero (slack r v)

module _ (t : Terms) (records : List ℕ) (rules : List Constraint) (w : Weights) where
  abbrev e₁ : Named
  e₁ = entry_of t.floors records rules w.first

  abbrev e₂ : Named
  e₂ = entry_of t.floors records rules w.second

  abbrev e₃ : Named
  e₃ = entry_of t.floors records rules w.third

  abbrev s₁ : Share
  s₁ = share w.first w.first_weight

  abbrev s₂ : Share
  s₂ = share w.second w.second_weight

  abbrev s₃ : Share
  s₃ = share w.third w.third_weight

  abbrev slots : Slots
  slots = slots_of t.floors records rules w

  pub sound-exactly : sound_of slots w ≡ (every (share_in_range t records rules) (shares w) && distinct (shares w))
  sound-exactly =
      (λ i. slot_sound (one w) e₁ w.first_weight i && slot_sound (two w) e₂ w.second_weight i
      && slot_sound (three w) e₃ w.third_weight i && apart_of w)
      ∙ sound-tests (share_in_range t records rules) s₁ s₂ s₃ (lt_z (pos 0) w.count) (lt_z (pos 1) w.count) (lt_z (pos 2) w.count)

  -- which slots are sound
  module _ (h : sound_of slots w ≡ true) where
    first_three : (slots.first.sound && slots.second.sound && slots.third.sound) ≡ true
    first_three = (both (slots.first.sound && slots.second.sound && slots.third.sound) (apart_of w) h).0

    first_two : (slots.first.sound && slots.second.sound) ≡ true
    first_two = (both (slots.first.sound && slots.second.sound) slots.third.sound first_three).0

    third-sound : slots.third.sound ≡ true
    third-sound = (both (slots.first.sound && slots.second.sound) slots.third.sound first_three).1

    second-sound : slots.second.sound ≡ true
    second-sound = (both slots.first.sound slots.second.sound first_two).1

    first-sound : slots.first.sound ≡ true
    first-sound = (both slots.first.sound slots.second.sound first_two).0

    pub total-sums : total_of slots ≡ sums t records rules (shares w)
    total-sums =
        go (lt_z (pos 0) w.count) (lt_z (pos 1) w.count) (lt_z (pos 2) w.count) first-sound second-sound third-sound
      where
        go : (b₁ b₂ b₃ : Bool) →
            (slot_of b₁ e₁ w.first_weight).sound ≡ true →
            (slot_of (b₁ && b₂) e₂ w.second_weight).sound ≡ true →
            (slot_of (b₁ && b₂ && b₃) e₃ w.third_weight).sound ≡ true →
            total_of (slots_with (slot_of b₁ e₁ w.first_weight) (slot_of (b₁ && b₂) e₂ w.second_weight)
            (slot_of (b₁ && b₂ && b₃) e₃ w.third_weight))
            ≡ sums t records rules (cond b₁ (s₁ ∷ cond b₂ (s₂ ∷ cond b₃ (s₃ ∷ []) []) []) [])
        go false b₂ b₃ h₁ h₂ h₃ = refl
        go true false b₃ h₁ h₂ h₃ =
            ap (λ x. total_of (slots_with x (blank_of true) (blank_of true))) (slot_holds e₁ w.first_weight h₁)
        go true true false h₁ h₂ h₃ =
            λ i. total_of (slots_with (slot_holds e₁ w.first_weight h₁ i) (slot_holds e₂ w.second_weight h₂ i) (blank_of true))
        go true true true h₁ h₂ h₃ =
            λ i. total_of (slots_with (slot_holds e₁ w.first_weight h₁ i) (slot_holds e₂ w.second_weight h₂ i)
            (slot_holds e₃ w.third_weight h₃ i))

    pub tight-all : (v : Point) → tight_of slots v ≡ tight_all t records rules v (shares w)
    tight-all v =
        go (lt_z (pos 0) w.count) (lt_z (pos 1) w.count) (lt_z (pos 2) w.count) first-sound second-sound third-sound
      where
        one_left : (a b c : Bool) → b ≡ true → c ≡ true → (a && b && c) ≡ elim a [ true ↦ true | false ↦ false ]
        one_left true b c eb ec = λ i. eb i && ec i
        one_left false b c eb ec = refl

        two-left : (a b c : Bool) →
            c ≡ true →
            (a && b && c) ≡ elim a [ true ↦ elim b [ true ↦ true | false ↦ false ] | false ↦ false ]
        two-left true true c ec = ec
        two-left true false c ec = refl
        two-left false b c ec = refl

        all_left : (a b c : Bool) →
            (a && b && c)
            ≡ elim a [ true ↦ elim b [ true ↦ elim c [ true ↦ true | false ↦ false ] | false ↦ false ] | false ↦ false ]
        all_left true true true = refl
        all_left true true false = refl
        all_left true false c = refl
        all_left false b c = refl

        go : (b₁ b₂ b₃ : Bool) →
            (slot_of b₁ e₁ w.first_weight).sound ≡ true →
            (slot_of (b₁ && b₂) e₂ w.second_weight).sound ≡ true →
            (slot_of (b₁ && b₂ && b₃) e₃ w.third_weight).sound ≡ true →
            tight_of (slots_with (slot_of b₁ e₁ w.first_weight) (slot_of (b₁ && b₂) e₂ w.second_weight)
            (slot_of (b₁ && b₂ && b₃) e₃ w.third_weight)) v
            ≡ tight_all t records rules v (cond b₁ (s₁ ∷ cond b₂ (s₂ ∷ cond b₃ (s₃ ∷ []) []) []) [])
        go false b₂ b₃ h₁ h₂ h₃ = λ i. none-tight v i && none-tight v i && none-tight v i
        go true false b₃ h₁ h₂ h₃ =
            ap (λ x. tight_of (slots_with x (blank_of true) (blank_of true)) v) (slot_holds e₁ w.first_weight h₁)
            ∙ one_left (zero_at v (entry_rule e₁)) (zero_at v none) (zero_at v none) (none-tight v) (none-tight v)
        go true true false h₁ h₂ h₃ =
            (λ i. tight_of (slots_with (slot_holds e₁ w.first_weight h₁ i) (slot_holds e₂ w.second_weight h₂ i) (blank_of true)) v)
            ∙ two-left (zero_at v (entry_rule e₁)) (zero_at v (entry_rule e₂)) (zero_at v none) (none-tight v)
        go true true true h₁ h₂ h₃ =
            (λ i. tight_of (slots_with (slot_holds e₁ w.first_weight h₁ i) (slot_holds e₂ w.second_weight h₂ i)
            (slot_holds e₃ w.third_weight h₃ i)) v)
            ∙ all_left (zero_at v (entry_rule e₁)) (zero_at v (entry_rule e₂)) (zero_at v (entry_rule e₃))

-- ---- sizes of what is looked up

pub weight-within : (w : ℤ) → weight_in_range w ≡ true → Within 2147352578 w
weight-within w e =
    let b = both (le_z (pos 1) w) (le_z w greatest_weight) e in
    within_range (le_trans {a = pos 0} {b = pos 1} {c = w} (le_z_yes tt) (le_z_yes (subst T (sym b.0) tt)))
    (le_z_yes (subst T (sym b.1) tt))

abbrev SmallNamed : Named → Type 0
SmallNamed None = Unit {0}
SmallNamed (Some r) = SmallConstraint r

rule-small : (records : List ℕ) (rules : List Constraint) → SmallSystem rules → (q : ℕ) → SmallNamed (rule_in records rules q)
rule-small [] rules h q = tt
rule-small (i ∷ is) [] h q = tt
rule-small (i ∷ is) (c ∷ cs) h q = go (eqb i q) (rule-small is cs h.1 q)
  where
    go : (b : Bool) → SmallNamed (rule_in is cs q) → SmallNamed (elim b [ true ↦ Some c | false ↦ rule_in is cs q ])
    go true k = h.0
    go false k = k

pub floor_x-small : {f : Floors} → SmallFloors f → SmallConstraint (floor_x f)
floor_x-small h =
    record { a_small = within-numeral tt; b-small = within-numeral tt; c-small = weaken tt (within_neg h.lx_small) }

pub floor_y-small : {f : Floors} → SmallFloors f → SmallConstraint (floor_y f)
floor_y-small h =
    record { a_small = within-numeral tt; b-small = within-numeral tt; c-small = weaken tt (within_neg h.ly_small) }

module _ (floors : Floors) (records : List ℕ) (rules : List Constraint) (hf : SmallFloors floors) (hr : SmallSystem rules) where
  entry-small : (code : ℤ) → SmallNamed (entry_of floors records rules code)
  entry-small (pos zero) = floor_x-small hf
  entry-small (pos (suc zero)) = floor_y-small hf
  entry-small (pos (suc (suc q))) = rule-small records rules hr (suc q)
  entry-small (negsuc n) = tt

  blank-small : (b : Bool) → SmallSlot (blank_of b)
  blank-small b =
      record {
        rule = record { a_small = within-numeral tt; b-small = within-numeral tt; c-small = within-numeral tt };
        weight = within-numeral tt;
      }

  weighed-small : (e : Named) → SmallNamed e → (w : ℤ) → SmallSlot (weighed_of e w)
  weighed-small None h w = blank-small false
  weighed-small (Some r) h w = go (weight_in_range w) refl
    where
      go : (b : Bool) → weight_in_range w ≡ b → SmallSlot (cond b (slot_with true r w) (blank_of false))
      go true e = record { rule = h; weight = weight-within w e }
      go false e = blank-small false

  slot_small : (b : Bool) (code w : ℤ) → SmallSlot (slot_of b (entry_of floors records rules code) w)
  slot_small true code w = weighed-small (entry_of floors records rules code) (entry-small code) w
  slot_small false code w = blank-small true

  pub slots_small : (w : Weights) → SmallSlots (slots_of floors records rules w)
  slots_small w =
      record {
        first = slot_small (one w) w.first w.first_weight;
        second = slot_small (two w) w.second w.second_weight;
        third = slot_small (three w) w.third w.third_weight;
      }
