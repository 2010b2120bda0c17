-- What the pass holds: on either side of the objective's normal g the nearest normal of the entries seen, and one of g's own direction if
-- there is one. At a best pair these enclose g.
use mathlib.Core.Path.{◌≡◌, refl, sym, ◌∙◌, ap, subst}
use mathlib.Core.List.Memᴰ
use mathlib.Core.List.{List, [], ◌∷◌, Memᴰ}
use mathlib.Core.Bool.{Bool, true, false}
use mathlib.Core.Logic.{◌⊎◌, inl, inr}
use Prim.Native.Nat.{ℕ, ◌+◌}
use lib.Dec.{T}
use lib.IntN.{ℤ, pos, neg_ℤ, ◌+ℤ◌, ◌*ℤ◌, zero-*ℤ}
use lib.Signed.{lt_z, lt_z_yes, clash_ℤ}
use Rattle.ints.specs.Order.{◌≤ᶻ◌, ◌<ᶻ◌}
use Rattle.ints.proofs.Ring.{◌⊕◌, ◌⊖◌, ◌⊗◌, ⊝◌, ◌≐◌, con}
use Rattle.ints.proofs.Order.{Sign, minus, nought, plus, sign, nn_add, nn_mul, nn_zero, pos_nn, pos-mul}
use Rattle.ints.proofs.Order.{neg_pos, neg_nn, nn_neg, nn_cancel, le_of_eq, antisymmetric, le_or_lt}
use Rattle.lp.specs.declared.Constraint.{Constraint}
use Rattle.lp.specs.declared.Functional.{Functional}
use Rattle.lp.specs.declared.Point.{Point}
use Rattle.lp.specs.Program.{ray, slack, Feasible, gain, rise}
use Rattle.lp.specs.Outcome.{det}
use Rattle.lp.specs.Certificate.{is_zero}
use Rattle.theory.proofs.Solver.{equal, nn_by, pos-by, C, Z, detᵖ}
use Rattle.theory.proofs.Lists.{for-members}
use Rattle.theory.proofs.Farkas.{is-zero}
use Rattle.slips.specs.declared.pass.Side.{Side}
use Rattle.slips.specs.declared.pass.Held.{Held}
use Rattle.slips.specs.Pass.{normal_of, opposite_of, dot, side, held_with, nothing_held, placed_of, turned_of, pass_of}
use Rattle.slips.proofs.Nearest.{no_gaining_direction}

-- ---- tests as facts

pub lt_of : (a b : ℤ) → lt_z a b ≡ true → a <ᶻ b
lt_of a b e = lt_z_yes (subst T (sym e) tt)

pub le_of-not : (a b : ℤ) → lt_z a b ≡ false → b ≤ᶻ a
le_of-not a b e = go (le_or_lt b a)
  where
    go : (b ≤ᶻ a) ⊎ (a <ᶻ b) → b ≤ᶻ a
    go (inl h) = h
    go (inr h) = absurd (subst T e h.lt)

-- ---- what is held

module _ (g : Constraint) (v : Point) (Entry : Side → Type 0) where
  -- an entry of the system, tight at the pair
  pub record Real (s : Side) : Type 0 where
    pub entered : Entry s
    pub tight : slack s.rule v ≡ pos 0

  pub record Holds (Seen : Constraint → Type 0) (h : Held) : Type 0 where
    pub left_in : (Real h.left × (pos 0 <ᶻ det g h.left.rule)) ⊎ (h.left.rule ≡ opposite_of g)
    pub left-first : (m : Constraint) → Seen m → pos 0 <ᶻ det g m → pos 0 ≤ᶻ det h.left.rule m
    pub right_in : (Real h.right × (det g h.right.rule <ᶻ pos 0)) ⊎ (h.right.rule ≡ opposite_of g)
    pub right-first : (m : Constraint) → Seen m → det g m <ᶻ pos 0 → pos 0 ≤ᶻ det m h.right.rule
    pub level_in : pos 0 <ᶻ dot g h.level.rule → Real h.level × (det g h.level.rule ≡ pos 0)
    pub level-found : (m : Constraint) → Seen m → det g m ≡ pos 0 → pos 0 <ᶻ dot g m → pos 0 <ᶻ dot g h.level.rule

  -- at first nothing was seen
  pub nothing-holds : (Seen : Constraint → Type 0) → ((m : Constraint) → Seen m → ⊥) → Holds Seen (nothing_held g)
  nothing-holds Seen none =
      record {
        left_in = inr refl;
        left-first = λ m i. absurd (none m i);
        right_in = inr refl;
        right-first = λ m i. absurd (none m i);
        level_in = λ p. clash_ℤ p (le_of_eq (equal (C ∷ []) (λ g. g.a ⊗ con (pos 0) ⊕ g.b ⊗ con (pos 0) ≐ con (pos 0)) refl g));
        level-found = λ m i. absurd (none m i);
      }

  -- ---- one tight entry more

  abbrev With : (Constraint → Type 0) → Constraint → Constraint → Type 0
  With Seen r m = Seen m ⊎ (m ≡ r)

  opposite-left : (m : Constraint) → det (opposite_of g) m ≡ neg_ℤ (det g m)
  opposite-left m = equal (C ∷ C ∷ []) (λ g m. ⊝ g.a ⊗ m.b ⊖ m.a ⊗ ⊝ g.b ≐ ⊝ detᵖ g m) refl g m

  opposite-right : (m : Constraint) → det m (opposite_of g) ≡ det g m
  opposite-right m = equal (C ∷ C ∷ []) (λ g m. m.a ⊗ ⊝ g.b ⊖ ⊝ g.a ⊗ m.b ≐ detᵖ g m) refl g m

  turn_round : (r s : Constraint) → det r s ≡ neg_ℤ (det s r)
  turn_round r s = equal (C ∷ C ∷ []) (λ r s. detᵖ r s ≐ ⊝ detᵖ s r) refl r s

  self : (r : Constraint) → det r r ≡ pos 0
  self r = equal (C ∷ []) (λ r. detᵖ r r ≐ con (pos 0)) refl r

  -- det g l · det s m = det g s · det l m + det g m · det s l
  plücker : (l s m : Constraint) → det g l *ℤ det s m ≡ det g s *ℤ det l m +ℤ det g m *ℤ det s l
  plücker l s m = equal (C ∷ C ∷ C ∷ C ∷ []) (λ g l s m. detᵖ g l ⊗ detᵖ s m ≐ detᵖ g s ⊗ detᵖ l m ⊕ detᵖ g m ⊗ detᵖ s l) refl g l s m

  module _ {Seen : Constraint → Type 0} {h : Held} (k : Holds Seen h) (s : Side) (real : Real s) where
    abbrev r : Constraint
    r = s.rule

    -- a nearer one on the left
    new-left : pos 0 <ᶻ det g r → pos 0 <ᶻ det r h.left.rule → Holds (With Seen r) (held_with s h.right h.level)
    new-left on nearer =
        record {
          left_in = inl (real, on);
          left-first = first;
          right_in = k.right_in;
          right-first = λ m i b. later m i b;
          level_in = k.level_in;
          level-found = λ m i e p. found m i e p;
        }
      where
        first : (m : Constraint) → With Seen r m → pos 0 <ᶻ det g m → pos 0 ≤ᶻ det r m
        first m (inr e) b = nn_zero (ap (det r) e ∙ self r)
        first m (inl i) b = go k.left_in
          where
            go : (Real h.left × (pos 0 <ᶻ det g h.left.rule)) ⊎ (h.left.rule ≡ opposite_of g) → pos 0 ≤ᶻ det r m
            go (inl x) =
                nn_cancel x.1 (subst (λ z. pos 0 ≤ᶻ z) (sym (plücker h.left.rule r m))
                (nn_add (nn_mul (pos_nn on) (k.left-first m i b)) (nn_mul (pos_nn b) (pos_nn nearer))))
            go (inr e) =
                clash_ℤ b (nn_neg (subst (λ z. pos 0 ≤ᶻ z) (ap (λ l. det l m) e ∙ opposite-left m) (k.left-first m i b)))

        later : (m : Constraint) → With Seen r m → det g m <ᶻ pos 0 → pos 0 ≤ᶻ det m h.right.rule
        later m (inl i) b = k.right-first m i b
        later m (inr e) b = clash_ℤ (subst (λ m. det g m <ᶻ pos 0) e b) (pos_nn on)

        found : (m : Constraint) → With Seen r m → det g m ≡ pos 0 → pos 0 <ᶻ dot g m → pos 0 <ᶻ dot g h.level.rule
        found m (inl i) e p = k.level-found m i e p
        found m (inr q) e p = clash_ℤ on (le_of_eq (ap (det g) (sym q) ∙ e))

    -- one on the left that is not nearer
    old-left : pos 0 <ᶻ det g r → det r h.left.rule ≤ᶻ pos 0 → Holds (With Seen r) h
    old-left on farther =
        record {
          left_in = k.left_in;
          left-first = first;
          right_in = k.right_in;
          right-first = later;
          level_in = k.level_in;
          level-found = found;
        }
      where
        first : (m : Constraint) → With Seen r m → pos 0 <ᶻ det g m → pos 0 ≤ᶻ det h.left.rule m
        first m (inl i) b = k.left-first m i b
        first m (inr e) b =
            subst (λ z. pos 0 ≤ᶻ z) (sym (ap (det h.left.rule) e ∙ turn_round h.left.rule r)) (neg_nn farther)

        later : (m : Constraint) → With Seen r m → det g m <ᶻ pos 0 → pos 0 ≤ᶻ det m h.right.rule
        later m (inl i) b = k.right-first m i b
        later m (inr e) b = clash_ℤ (subst (λ m. det g m <ᶻ pos 0) e b) (pos_nn on)

        found : (m : Constraint) → With Seen r m → det g m ≡ pos 0 → pos 0 <ᶻ dot g m → pos 0 <ᶻ dot g h.level.rule
        found m (inl i) e p = k.level-found m i e p
        found m (inr q) e p = clash_ℤ on (le_of_eq (ap (det g) (sym q) ∙ e))

    -- a nearer one on the right
    new-right : det g r <ᶻ pos 0 → pos 0 <ᶻ det h.right.rule r → Holds (With Seen r) (held_with h.left s h.level)
    new-right on nearer =
        record {
          left_in = k.left_in;
          left-first = first;
          right_in = inl (real, on);
          right-first = later;
          level_in = k.level_in;
          level-found = found;
        }
      where
        first : (m : Constraint) → With Seen r m → pos 0 <ᶻ det g m → pos 0 ≤ᶻ det h.left.rule m
        first m (inl i) b = k.left-first m i b
        first m (inr e) b = clash_ℤ on (pos_nn (subst (λ m. pos 0 <ᶻ det g m) e b))

        later : (m : Constraint) → With Seen r m → det g m <ᶻ pos 0 → pos 0 ≤ᶻ det m r
        later m (inr e) b = nn_zero (ap (λ x. det x r) e ∙ self r)
        later m (inl i) b = go k.right_in
          where
            go : (Real h.right × (det g h.right.rule <ᶻ pos 0)) ⊎ (h.right.rule ≡ opposite_of g) → pos 0 ≤ᶻ det m r
            go (inl x) =
                nn_cancel (neg_pos x.1)
                (nn_by (C ∷ C ∷ C ∷ C ∷ [])
                (λ g q m r. ⊝ detᵖ g q ⊗ detᵖ m r ≐ ⊝ detᵖ g m ⊗ detᵖ q r ⊕ ⊝ detᵖ g r ⊗ detᵖ m q) refl g h.right.rule m r
                (nn_add (nn_mul (pos_nn (neg_pos b)) (pos_nn nearer)) (nn_mul (pos_nn (neg_pos on)) (k.right-first m i b))))
            go (inr e) =
                clash_ℤ b (subst (λ z. pos 0 ≤ᶻ z) (ap (det m) e ∙ opposite-right m) (k.right-first m i b))

        found : (m : Constraint) → With Seen r m → det g m ≡ pos 0 → pos 0 <ᶻ dot g m → pos 0 <ᶻ dot g h.level.rule
        found m (inl i) e p = k.level-found m i e p
        found m (inr q) e p = clash_ℤ on (le_of_eq (sym (ap (det g) (sym q) ∙ e)))

    old-right : det g r <ᶻ pos 0 → det h.right.rule r ≤ᶻ pos 0 → Holds (With Seen r) h
    old-right on farther =
        record {
          left_in = k.left_in;
          left-first = first;
          right_in = k.right_in;
          right-first = later;
          level_in = k.level_in;
          level-found = found;
        }
      where
        first : (m : Constraint) → With Seen r m → pos 0 <ᶻ det g m → pos 0 ≤ᶻ det h.left.rule m
        first m (inl i) b = k.left-first m i b
        first m (inr e) b = clash_ℤ on (pos_nn (subst (λ m. pos 0 <ᶻ det g m) e b))

        later : (m : Constraint) → With Seen r m → det g m <ᶻ pos 0 → pos 0 ≤ᶻ det m h.right.rule
        later m (inl i) b = k.right-first m i b
        later m (inr e) b =
            subst (λ z. pos 0 ≤ᶻ z) (sym (ap (λ x. det x h.right.rule) e ∙ turn_round r h.right.rule)) (neg_nn farther)

        found : (m : Constraint) → With Seen r m → det g m ≡ pos 0 → pos 0 <ᶻ dot g m → pos 0 <ᶻ dot g h.level.rule
        found m (inl i) e p = k.level-found m i e p
        found m (inr q) e p = clash_ℤ on (le_of_eq (sym (ap (det g) (sym q) ∙ e)))

    module _ (level : det g r ≡ pos 0) where
      first-level : (m : Constraint) → With Seen r m → pos 0 <ᶻ det g m → pos 0 ≤ᶻ det h.left.rule m
      first-level m (inl i) b = k.left-first m i b
      first-level m (inr e) b = clash_ℤ (subst (λ m. pos 0 <ᶻ det g m) e b) (le_of_eq level)

      later-level : (m : Constraint) → With Seen r m → det g m <ᶻ pos 0 → pos 0 ≤ᶻ det m h.right.rule
      later-level m (inl i) b = k.right-first m i b
      later-level m (inr e) b = clash_ℤ (subst (λ m. det g m <ᶻ pos 0) e b) (le_of_eq (sym level))

      -- one of g's own direction
      new-level : pos 0 <ᶻ dot g r → Holds (With Seen r) (held_with h.left h.right s)
      new-level p =
          record {
            left_in = k.left_in;
            left-first = first-level;
            right_in = k.right_in;
            right-first = later-level;
            level_in = λ q. (real, level);
            level-found = λ m i e q. p;
          }

      -- one of the opposite direction, or of none
      no_level : dot g r ≤ᶻ pos 0 → Holds (With Seen r) h
      no_level n =
          record {
            left_in = k.left_in;
            left-first = first-level;
            right_in = k.right_in;
            right-first = later-level;
            level_in = k.level_in;
            level-found = found;
          }
        where
          found : (m : Constraint) → With Seen r m → det g m ≡ pos 0 → pos 0 <ᶻ dot g m → pos 0 <ᶻ dot g h.level.rule
          found m (inl i) e p = k.level-found m i e p
          found m (inr q) e p = clash_ℤ (subst (λ m. pos 0 <ᶻ dot g m) q p) n

    placed-holds : Holds (With Seen r) (placed_of g s h)
    placed-holds =
        go (lt_z (pos 0) (det g r)) refl (lt_z (pos 0) (det r h.left.rule)) refl (lt_z (det g r) (pos 0)) refl
        (lt_z (pos 0) (det h.right.rule r)) refl (lt_z (pos 0) (dot g r)) refl
      where
        go : (a : Bool) →
            lt_z (pos 0) (det g r) ≡ a →
            (b : Bool) →
            lt_z (pos 0) (det r h.left.rule) ≡ b →
            (c : Bool) →
            lt_z (det g r) (pos 0) ≡ c →
            (d : Bool) →
            lt_z (pos 0) (det h.right.rule r) ≡ d →
            (e : Bool) →
            lt_z (pos 0) (dot g r) ≡ e →
            Holds (With Seen r) (elim a [
              | true ↦ elim b [ true ↦ held_with s h.right h.level | false ↦ h ]
              | false ↦
                  elim c [
                    | true ↦ elim d [ true ↦ held_with h.left s h.level | false ↦ h ]
                    | false ↦ elim e [ true ↦ held_with h.left h.right s | false ↦ h ]
                  ]
            ])
        go true ea true eb c ec d ed e ee = new-left (lt_of _ _ ea) (lt_of _ _ eb)
        go true ea false eb c ec d ed e ee = old-left (lt_of _ _ ea) (le_of-not _ _ eb)
        go false ea b eb true ec true ed e ee = new-right (lt_of _ _ ec) (lt_of _ _ ed)
        go false ea b eb true ec false ed e ee = old-right (lt_of _ _ ec) (le_of-not _ _ ed)
        go false ea b eb false ec d ed true ee = new-level (antisymmetric (le_of-not _ _ ea) (le_of-not _ _ ec)) (lt_of _ _ ee)
        go false ea b eb false ec d ed false ee = no_level (antisymmetric (le_of-not _ _ ea) (le_of-not _ _ ec)) (le_of-not _ _ ee)

  -- ---- an entry more, tight or not

  -- what was seen is less
  pub seen-less : {Seen Seen' : Constraint → Type 0} → ((m : Constraint) → Seen' m → Seen m) → {h : Held} → Holds Seen h → Holds Seen' h
  seen-less less k =
      record {
        left_in = k.left_in;
        left-first = λ m i. k.left-first m (less m i);
        right_in = k.right_in;
        right-first = λ m i. k.right-first m (less m i);
        level_in = k.level_in;
        level-found = λ m i. k.level-found m (less m i);
      }

  abbrev pub AndTight : (Constraint → Type 0) → Constraint → Constraint → Type 0
  AndTight Seen r m = Seen m ⊎ ((m ≡ r) × (slack m v ≡ pos 0))

  pub turned-holds : {Seen : Constraint → Type 0} {h : Held} →
      Holds Seen h →
      (s : Side) →
      Entry s →
      Holds (AndTight Seen s.rule) (turned_of g v s h)
  turned-holds {Seen} {h} k s entered = go (is_zero (slack s.rule v)) refl
    where
      go : (b : Bool) → is_zero (slack s.rule v) ≡ b → Holds (AndTight Seen s.rule) (elim b [ true ↦ placed_of g s h | false ↦ h ])
      go true e =
          seen-less {Seen = With Seen s.rule} (λ m i. part m i)
          (placed-holds k s (record { entered = entered; tight = is-zero (slack s.rule v) (subst T (sym e) tt) }))
        where
          part : (m : Constraint) → AndTight Seen s.rule m → With Seen s.rule m
          part m (inl i) = inl i
          part m (inr x) = inr x.0
      go false e = seen-less {Seen = Seen} (λ m i. part m i) k
        where
          zero_is : (z : ℤ) → z ≡ pos 0 → is_zero z ≡ true
          zero_is z q = ap is_zero q

          part : (m : Constraint) → AndTight Seen s.rule m → Seen m
          part m (inl i) = i
          part m (inr x) =
              absurd (subst T (sym (zero_is (slack s.rule v) (ap (λ r. slack r v) (sym x.0) ∙ x.1)) ∙ e) tt)

  -- ---- a chain of entries more

  -- as many records as rules, and each of them an entry
  abbrev pub Paired : List ℕ → List Constraint → Type 0
  Paired [] [] = Unit {0}
  Paired [] (c ∷ cs) = ⊥
  Paired (i ∷ is) [] = ⊥
  Paired (i ∷ is) (c ∷ cs) = Entry (side (pos (i + 1)) c) × Paired is cs

  pub pass_holds : (is : List ℕ) (cs : List Constraint) →
      Paired is cs →
      {Seen : Constraint → Type 0} {h : Held} →
      Holds Seen h →
      Holds (λ m. Seen m ⊎ (Memᴰ m cs × (slack m v ≡ pos 0))) (pass_of g v is cs h)
  pass_holds [] [] p {Seen} k = seen-less {Seen = Seen} (λ m i. part m i) k
    where
      part : (m : Constraint) → Seen m ⊎ (Memᴰ m [] × (slack m v ≡ pos 0)) → Seen m
      part m (inl i) = i
      part m (inr x) = absurd (Memᴰ.not-nil x.0)
  pass_holds [] (c ∷ cs) p k = absurd p
  pass_holds (i ∷ is) [] p k = absurd p
  pass_holds (i ∷ is) (c ∷ cs) p {Seen} k =
      seen-less {Seen = λ m. AndTight Seen c m ⊎ (Memᴰ m cs × (slack m v ≡ pos 0))} (λ m j. part m j)
      (pass_holds is cs p.1 {Seen = AndTight Seen c} (turned-holds k (side (pos (i + 1)) c) p.0))
    where
      among : (m : Constraint) →
          Memᴰ m (c ∷ cs) →
          slack m v ≡ pos 0 →
          AndTight Seen c m ⊎ (Memᴰ m cs × (slack m v ≡ pos 0))
      among =
          for-members (λ m. slack m v ≡ pos 0 → AndTight Seen c m ⊎ (Memᴰ m cs × (slack m v ≡ pos 0))) c cs
          (λ t. inl (inr (refl, t))) (λ m j t. inr (j, t))

      part : (m : Constraint) →
          Seen m ⊎ (Memᴰ m (c ∷ cs) × (slack m v ≡ pos 0)) →
          AndTight Seen c m ⊎ (Memᴰ m cs × (slack m v ≡ pos 0))
      part m (inl j) = inl (inl j)
      part m (inr x) = among m x.0 x.1

-- ---- at a best pair

pub square : (z : ℤ) → pos 0 ≤ᶻ z *ℤ z
square z = go (sign z)
  where
    go : Sign z → pos 0 ≤ᶻ z *ℤ z
    go (minus n) =
        nn_by (Z ∷ []) (λ z. z ⊗ z ≐ ⊝ z ⊗ ⊝ z) refl z (nn_mul (pos_nn (neg_pos n)) (pos_nn (neg_pos n)))
    go (nought e) = nn_zero (ap (λ x. x *ℤ x) e)
    go (plus p) = nn_mul (pos_nn p) (pos_nn p)

pub square-zero : (z : ℤ) → z *ℤ z ≤ᶻ pos 0 → z ≡ pos 0
square-zero z h = go (sign z)
  where
    go : Sign z → z ≡ pos 0
    go (minus n) =
        clash_ℤ (pos-by (Z ∷ []) (λ z. z ⊗ z ≐ ⊝ z ⊗ ⊝ z) refl z (pos-mul (neg_pos n) (neg_pos n))) h
    go (nought e) = e
    go (plus p) = clash_ℤ (pos-mul p p) h

-- two numbers whose squares add up to 0
pub squares : (p q : ℤ) → p *ℤ p +ℤ q *ℤ q ≡ pos 0 → (p ≡ pos 0) × (q ≡ pos 0)
squares p q e = (
  square-zero p (nn_neg (nn_by (Z ∷ Z ∷ []) (λ p q. ⊝ (p ⊗ p) ≐ q ⊗ q ⊕ ⊝ (p ⊗ p ⊕ q ⊗ q)) refl p q
      (nn_add (square q) (nn_zero (ap neg_ℤ e))))),
  square-zero q (nn_neg (nn_by (Z ∷ Z ∷ []) (λ p q. ⊝ (q ⊗ q) ≐ p ⊗ p ⊕ ⊝ (p ⊗ p ⊕ q ⊗ q)) refl p q
      (nn_add (square p) (nn_zero (ap neg_ℤ e))))),
)

module _ (S : List Constraint) (f : Functional) (v : Point) (feasible : Feasible S v)
    (no_more : (w : Point) → Feasible S w → gain f w *ℤ v.d ≤ᶻ gain f v *ℤ w.d) (Entry : Side → Type 0) {h : Held}
    (k : Holds (normal_of f) v Entry (λ m. Memᴰ m S × (slack m v ≡ pos 0)) h)
    (no_level : dot (normal_of f) h.level.rule ≤ᶻ pos 0) (apart : det h.right.rule h.left.rule ≤ᶻ pos 0) where
  abbrev g : Constraint
  g = normal_of f

  abbrev l : Constraint
  l = h.left.rule

  abbrev q : Constraint
  q = h.right.rule

  module _ (some : pos 0 <ᶻ dot g g) where
    -- a tight entry across g's line points backward
    backward : (m : Constraint) → Memᴰ m S → slack m v ≡ pos 0 → det g m ≡ pos 0 → dot g m ≤ᶻ pos 0
    backward m i t e = go (le_or_lt (dot g m) (pos 0))
      where
        go : (dot g m ≤ᶻ pos 0) ⊎ (pos 0 <ᶻ dot g m) → dot g m ≤ᶻ pos 0
        go (inl x) = x
        go (inr x) = clash_ℤ (k.level-found m (i, t) e x) no_level

    -- nothing is on the left, and nothing on the right
    none_left : l ≡ opposite_of g → (m : Constraint) → Memᴰ m S → slack m v ≡ pos 0 → pos 0 <ᶻ det g m → ⊥
    none_left e m i t b =
        clash_ℤ b (nn_neg (subst (λ z. pos 0 ≤ᶻ z) (ap (λ l. det l m) e ∙ opposite-left g v Entry m) (k.left-first m (i, t) b)))

    none_right : q ≡ opposite_of g → (m : Constraint) → Memᴰ m S → slack m v ≡ pos 0 → det g m <ᶻ pos 0 → ⊥
    none_right e m i t b =
        clash_ℤ b (subst (λ z. pos 0 ≤ᶻ z) (ap (det m) e ∙ opposite-right g v Entry m) (k.right-first m (i, t) b))

    -- something is on the right
    from-right : det g q <ᶻ pos 0 → ⊥
    from-right on =
        no_gaining_direction S f v feasible no_more (ray (neg_ℤ q.b) q.a) stays
        (pos-by (C ∷ C ∷ []) (λ g q. g.a ⊗ ⊝ q.b ⊕ g.b ⊗ q.a ≐ ⊝ detᵖ g q) refl g q (neg_pos on))
      where
        falls : (m : Constraint) → pos 0 ≤ᶻ neg_ℤ (det q m) → rise m (ray (neg_ℤ q.b) q.a) ≤ᶻ pos 0
        falls m x = nn_neg (nn_by (C ∷ C ∷ []) (λ q m. ⊝ (m.a ⊗ ⊝ q.b ⊕ m.b ⊗ q.a) ≐ ⊝ detᵖ q m) refl q m x)

        by_left : (m : Constraint) → Memᴰ m S → slack m v ≡ pos 0 → pos 0 <ᶻ det g m → pos 0 ≤ᶻ neg_ℤ (det q m)
        by_left m i t b = go k.left_in
          where
            go : (Real g v Entry h.left × (pos 0 <ᶻ det g l)) ⊎ (l ≡ opposite_of g) → pos 0 ≤ᶻ neg_ℤ (det q m)
            go (inl x) =
                nn_cancel x.1
                (nn_by (C ∷ C ∷ C ∷ C ∷ [])
                (λ g l q m. detᵖ g l ⊗ ⊝ detᵖ q m ≐ ⊝ detᵖ g q ⊗ detᵖ l m ⊕ detᵖ g m ⊗ ⊝ detᵖ q l) refl g l q m
                (nn_add (nn_mul (pos_nn (neg_pos on)) (k.left-first m (i, t) b)) (nn_mul (pos_nn b) (neg_nn apart))))
            go (inr e) = absurd (none_left e m i t b)

        stays : (m : Constraint) → Memᴰ m S → slack m v ≡ pos 0 → rise m (ray (neg_ℤ q.b) q.a) ≤ᶻ pos 0
        stays m i t = falls m (go (sign (det g m)))
          where
            go : Sign (det g m) → pos 0 ≤ᶻ neg_ℤ (det q m)
            go (plus b) = by_left m i t b
            go (minus b) =
                nn_by (C ∷ C ∷ []) (λ q m. ⊝ detᵖ q m ≐ detᵖ m q) refl q m (k.right-first m (i, t) b)
            go (nought e) =
                nn_cancel some
                (nn_by (C ∷ C ∷ C ∷ [])
                (λ g q m. (g.a ⊗ g.a ⊕ g.b ⊗ g.b) ⊗ ⊝ detᵖ q m
                ≐ ⊝ (g.a ⊗ m.a ⊕ g.b ⊗ m.b) ⊗ ⊝ detᵖ g q ⊕ detᵖ g m ⊗ ⊝ (q.a ⊗ g.a ⊕ q.b ⊗ g.b)) refl g q m
                (nn_add (nn_mul (neg_nn (backward m i t e)) (pos_nn (neg_pos on)))
                (nn_zero (ap (λ z. z *ℤ neg_ℤ (dot q g)) e ∙ zero-*ℤ (neg_ℤ (dot q g))))))

    -- nothing is on the right, but something on the left
    from-left : q ≡ opposite_of g → pos 0 <ᶻ det g l → ⊥
    from-left eq on =
        no_gaining_direction S f v feasible no_more (ray l.b (neg_ℤ l.a)) stays
        (pos-by (C ∷ C ∷ []) (λ g l. g.a ⊗ l.b ⊕ g.b ⊗ ⊝ l.a ≐ detᵖ g l) refl g l on)
      where
        falls : (m : Constraint) → pos 0 ≤ᶻ det l m → rise m (ray l.b (neg_ℤ l.a)) ≤ᶻ pos 0
        falls m x = nn_neg (nn_by (C ∷ C ∷ []) (λ l m. ⊝ (m.a ⊗ l.b ⊕ m.b ⊗ ⊝ l.a) ≐ detᵖ l m) refl l m x)

        stays : (m : Constraint) → Memᴰ m S → slack m v ≡ pos 0 → rise m (ray l.b (neg_ℤ l.a)) ≤ᶻ pos 0
        stays m i t = falls m (go (sign (det g m)))
          where
            go : Sign (det g m) → pos 0 ≤ᶻ det l m
            go (plus b) = k.left-first m (i, t) b
            go (minus b) = absurd (none_right eq m i t b)
            go (nought e) =
                nn_cancel some
                (nn_by (C ∷ C ∷ C ∷ [])
                (λ g l m. (g.a ⊗ g.a ⊕ g.b ⊗ g.b) ⊗ detᵖ l m
                ≐ ⊝ (g.a ⊗ m.a ⊕ g.b ⊗ m.b) ⊗ detᵖ g l ⊕ detᵖ g m ⊗ (l.a ⊗ g.a ⊕ l.b ⊗ g.b)) refl g l m
                (nn_add (nn_mul (neg_nn (backward m i t e)) (pos_nn on))
                (nn_zero (ap (λ z. z *ℤ dot l g) e ∙ zero-*ℤ (dot l g)))))

    -- nothing is on either side
    from-none : q ≡ opposite_of g → l ≡ opposite_of g → ⊥
    from-none eq el = no_gaining_direction S f v feasible no_more (ray f.p f.q) stays some
      where
        stays : (m : Constraint) → Memᴰ m S → slack m v ≡ pos 0 → rise m (ray f.p f.q) ≤ᶻ pos 0
        stays m i t = go (sign (det g m))
          where
            go : Sign (det g m) → rise m (ray f.p f.q) ≤ᶻ pos 0
            go (plus b) = absurd (none_left el m i t b)
            go (minus b) = absurd (none_right eq m i t b)
            go (nought e) =
                nn_neg (nn_by (C ∷ C ∷ []) (λ g m. ⊝ (m.a ⊗ g.a ⊕ m.b ⊗ g.b) ≐ ⊝ (g.a ⊗ m.a ⊕ g.b ⊗ m.b)) refl g m
                (neg_nn (backward m i t e)))

    not_enclosed : ⊥
    not_enclosed = go k.right_in k.left_in
      where
        go : (Real g v Entry h.right × (det g q <ᶻ pos 0)) ⊎ (q ≡ opposite_of g) →
            (Real g v Entry h.left × (pos 0 <ᶻ det g l)) ⊎ (l ≡ opposite_of g) →
            ⊥
        go (inl x) y = from-right x.1
        go (inr eq) (inl y) = from-left eq y.1
        go (inr eq) (inr el) = from-none eq el

  -- the objective is (0, 0)
  pub no_objective : (f.p ≡ pos 0) × (f.q ≡ pos 0)
  no_objective = go (sign (dot g g))
    where
      go : Sign (dot g g) → (f.p ≡ pos 0) × (f.q ≡ pos 0)
      go (minus n) = clash_ℤ n (nn_add (square f.p) (square f.q))
      go (plus p) = absurd (not_enclosed p)
      go (nought e) = squares f.p f.q e
