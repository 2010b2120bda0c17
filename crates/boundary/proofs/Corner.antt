-- Corners, and what a new constraint h does at one: where an edge of the boundary is cut by h there is a new corner, of h and that edge,
-- which keeps whatever the edge's two corners keep; h is kept by all that keeps two neighbours around it whose corner keeps h; and the
-- line of h goes into the region over one edge alone.
use mathlib.Core.Path.{◌≡◌, refl, sym, ◌∙◌, ap, subst}
use mathlib.Core.List.{List, Memᴰ}
use lib.IntN.{pos, neg_ℤ, ◌+ℤ◌, ◌*ℤ◌}
use lib.Signed.{clash_ℤ}
use Rattle.ints.specs.Order.{◌≤ᶻ◌, ◌<ᶻ◌}
use Rattle.ints.proofs.Ring.{ring, ◌⊕◌, ◌⊗◌, ⊝◌, ◌≐◌, con}
use Rattle.ints.proofs.Laws.{mul_neg}
use Rattle.ints.proofs.Order.{nn_add, nn_mul, nn_cancel, pos_nn, pos-mul, nn_add_pos, pos-add_nn, pos-cancel, neg_pos, neg_nn}
use Rattle.ints.proofs.Order.{nn_neg, pos_neg, antisymmetric, le_of_eq}
use Rattle.lp.specs.declared.Constraint.{Constraint}
use Rattle.lp.specs.declared.Point.{Point}
use Rattle.lp.specs.Program.{slack, Keeps}
use Rattle.lp.specs.Outcome.{meet}
use Rattle.theory.proofs.Line.{meet-on-second}
use Rattle.boundary.specs.Size.{turn}
use Rattle.boundary.proofs.Identities.{exchanged, exchanged-first, by-corner, along-edge, along-edge-back, factor-pos, other-pos}

abbrev pub KeepsAt : Constraint → Constraint → Constraint → Type 0
KeepsAt h p q = Keeps h (meet p q)

abbrev pub BreaksAt : Constraint → Constraint → Constraint → Type 0
BreaksAt h p q = slack h (meet p q) <ᶻ pos 0

-- p and q turn to the left, and where they meet every entry of S is kept
pub record Corner (D : Constraint) (S : List Constraint) (p q : Constraint) : Type 0 where
  pub first : Memᴰ p S
  pub second : Memᴰ q S
  pub turns : pos 0 <ᶻ turn D p q
  pub kept : (r : Constraint) → Memᴰ r S → KeepsAt r p q

-- ---- new corners

module _ (D h p q r : Constraint) (turns-p : pos 0 <ᶻ turn D p q) (turns-r : pos 0 <ᶻ turn D q r) (inside : KeepsAt r p q) where
  -- h breaks the edge's first corner and keeps its second
  module _ (broken : BreaksAt h p q) (kept : KeepsAt h q r) where
    entering : pos 0 <ᶻ slack r (meet p q) *ℤ turn D h q
    entering =
        subst (λ z. pos 0 <ᶻ z) (sym (along-edge h D p q r))
        (nn_add_pos (nn_mul kept (pos_nn turns-p)) (pos-mul (neg_pos broken) turns-r))

    pub entering-turns : pos 0 <ᶻ turn D h q
    entering-turns = other-pos (slack r (meet p q)) (turn D h q) inside entering

    pub entering-keeps : (m : Constraint) → KeepsAt m p q → KeepsAt m q r → KeepsAt m h q
    entering-keeps m at_p at-r =
        nn_cancel (factor-pos (slack r (meet p q)) (turn D h q) inside entering)
        (subst (λ z. pos 0 ≤ᶻ z) (sym (along-edge h m p q r)) (nn_add (nn_mul kept at_p) (nn_mul (pos_nn (neg_pos broken)) at-r)))

  -- h keeps the edge's first corner and breaks its second
  module _ (kept : KeepsAt h p q) (broken : BreaksAt h q r) where
    leaving : pos 0 <ᶻ slack r (meet p q) *ℤ turn D q h
    leaving =
        subst (λ z. pos 0 <ᶻ z) (sym (along-edge-back h D p q r))
        (pos-add_nn (pos-mul (neg_pos broken) turns-p) (nn_mul kept (pos_nn turns-r)))

    pub leaving-turns : pos 0 <ᶻ turn D q h
    leaving-turns = other-pos (slack r (meet p q)) (turn D q h) inside leaving

    pub leaving-keeps : (m : Constraint) → KeepsAt m p q → KeepsAt m q r → KeepsAt m q h
    leaving-keeps m at_p at-r =
        nn_cancel (factor-pos (slack r (meet p q)) (turn D q h) inside leaving)
        (subst (λ z. pos 0 ≤ᶻ z) (sym (along-edge-back h m p q r))
        (nn_add (nn_mul (pos_nn (neg_pos broken)) at_p) (nn_mul kept at-r)))

-- ---- redundant, or broken by all

module _ (D h p q : Constraint) (turns : pos 0 <ᶻ turn D p q) (v : Point) (keeps-p : Keeps p v) (keeps-q : Keeps q v) where
  pub redundant :
      pos 0 ≤ᶻ slack D v →
      pos 0 ≤ᶻ turn D p h →
      pos 0 ≤ᶻ turn D h q →
      KeepsAt h p q →
      Keeps h v
  redundant sized before after kept =
      nn_cancel turns
      (subst (λ z. pos 0 ≤ᶻ z) (sym (by-corner D h p q v))
      (nn_add (nn_add (nn_mul kept sized) (nn_mul after keeps-p)) (nn_mul before keeps-q)))

  -- around the place opposite to h: if h is broken there, it is broken everywhere
  pub broken-by-all :
      pos 0 <ᶻ slack D v →
      turn D p h ≤ᶻ pos 0 →
      turn D h q ≤ᶻ pos 0 →
      BreaksAt h p q →
      slack h v <ᶻ pos 0
  broken-by-all sized before after broken =
      pos_neg (pos-cancel turns (subst (λ z. pos 0 <ᶻ z) (sym turned)
      (pos-add_nn (pos-add_nn (pos-mul (neg_pos broken) sized) (nn_mul (neg_nn after) keeps-p)) (nn_mul (neg_nn before) keeps-q))))
    where
      turned :
          turn D p q *ℤ neg_ℤ (slack h v)
          ≡ neg_ℤ (slack h (meet p q)) *ℤ slack D v +ℤ neg_ℤ (turn D h q) *ℤ slack p v +ℤ neg_ℤ (turn D p h) *ℤ slack q v
      turned =
          mul_neg (turn D p q) (slack h v)
          ∙ ap neg_ℤ (by-corner D h p q v)
          ∙ ring 6 (λ a b c d e g. ⊝ (a ⊗ b ⊕ c ⊗ d ⊕ e ⊗ g) ≐ (⊝ a) ⊗ b ⊕ (⊝ c) ⊗ d ⊕ (⊝ e) ⊗ g) refl (slack h (meet p q)) (slack D v)
          (turn D h q) (slack p v) (turn D p h) (slack q v)

-- ---- edges that are not one and the same

-- p and q are not positive multiples of each other: no line t tells that they are
abbrev pub Apart : Constraint → Constraint → Constraint → Type 0
Apart D p q =
    (t : Constraint) →
    pos 0 <ᶻ turn D t p →
    pos 0 <ᶻ turn D t q →
    turn D p q ≡ pos 0 →
    slack q (meet t p) ≡ pos 0 →
    ⊥

pub apart-sym : (D p q : Constraint) → Apart D p q → Apart D q p
apart-sym D p q a t at-q at_p level on =
    a t at_p at-q (exchanged D q p ∙ ap neg_ℤ level) (exchanged-first t q p ∙ ap neg_ℤ on)

-- neighbours are apart
pub turning-apart : (D p q : Constraint) → pos 0 <ᶻ turn D p q → Apart D p q
turning-apart D p q turns t at_p at-q level on = clash_ℤ turns (le_of_eq level)

-- so are h and q if a point breaks h and keeps q
pub broken-apart : (D h q : Constraint) (v : Point) → slack h v <ᶻ pos 0 → Keeps q v → Apart D h q
broken-apart D h q v broken kept t at-h at-q level on =
    clash_ℤ (pos_neg (subst (λ z. pos 0 <ᶻ z) (sym weighed) (pos-mul at-q (neg_pos broken)))) (nn_mul (pos_nn at-h) kept)
  where
    weighed : neg_ℤ (turn D t h *ℤ slack q v) ≡ turn D t q *ℤ neg_ℤ (slack h v)
    weighed =
        ap neg_ℤ (by-corner D q t h v
        ∙ (λ i. on i *ℤ slack D v +ℤ (exchanged D h q ∙ ap neg_ℤ level) i *ℤ slack t v +ℤ turn D t q *ℤ slack h v))
        ∙ ring 4 (λ d t q h. ⊝ (con (pos 0) ⊗ d ⊕ con (pos 0) ⊗ t ⊕ q ⊗ h) ≐ q ⊗ ⊝ h) refl (slack D v) (slack t v) (turn D t q) (slack h v)

-- ---- the line of h goes into the region over one edge alone

-- h breaks the corner before p and keeps the one after it
pub record Entry (D : Constraint) (S : List Constraint) (h p : Constraint) : Type 0 where
  pub before : Constraint
  pub after : Constraint
  pub corner : Corner D S before p
  pub corner-after : Corner D S p after
  pub broken : BreaksAt h before p
  pub kept : KeepsAt h p after

module _ (D : Constraint) (S : List Constraint) (h p q : Constraint) (P : Entry D S h p) (Q : Entry D S h q) where
  pub entry-turns : pos 0 <ᶻ turn D h p
  entry-turns =
      entering-turns D h P.before p P.after P.corner.turns P.corner-after.turns
      (P.corner.kept P.after P.corner-after.second) P.broken P.kept

  -- the new corner of h and p keeps q
  pub entry-keeps : KeepsAt q h p
  entry-keeps =
      entering-keeps D h P.before p P.after P.corner.turns P.corner-after.turns
      (P.corner.kept P.after P.corner-after.second) P.broken P.kept q (P.corner.kept q Q.corner.second)
      (P.corner-after.kept q Q.corner.second)

  -- if the new corner lies on q, then the corner before p, which keeps q and breaks h, tells how p and q turn
  pub entry-level : slack q (meet h p) ≡ pos 0 → turn D q p ≤ᶻ pos 0
  entry-level on =
      nn_neg (nn_cancel (neg_pos P.broken) (subst (λ z. pos 0 ≤ᶻ z) weighed
      (nn_mul (pos_nn entry-turns) (P.corner.kept q Q.corner.second))))
    where
      weighed : turn D h p *ℤ slack q (meet P.before p) ≡ neg_ℤ (slack h (meet P.before p)) *ℤ neg_ℤ (turn D q p)
      weighed =
          by-corner D q h p (meet P.before p)
          ∙ (λ i. on i *ℤ slack D (meet P.before p) +ℤ turn D q p *ℤ slack h (meet P.before p)
          +ℤ turn D h q *ℤ meet-on-second P.before p i)
          ∙ ring 4 (λ d t h u. con (pos 0) ⊗ d ⊕ t ⊗ h ⊕ u ⊗ con (pos 0) ≐ ⊝ h ⊗ ⊝ t) refl (slack D (meet P.before p)) (turn D q p)
          (slack h (meet P.before p)) (turn D h q)

pub one_entry : (D : Constraint) (S : List Constraint) (h p q : Constraint) → Entry D S h p → Entry D S h q → Apart D p q → ⊥
one_entry D S h p q P Q apart = apart h (entry-turns D S h p q P Q) (entry-turns D S h q p Q P) level on
  where
    -- each new corner keeps the other edge, so that both lie on both
    on : slack q (meet h p) ≡ pos 0
    on =
        antisymmetric (nn_neg (subst (λ z. pos 0 ≤ᶻ z) (exchanged-first h p q) (entry-keeps D S h q p Q P)))
        (entry-keeps D S h p q P Q)

    on-other : slack p (meet h q) ≡ pos 0
    on-other = exchanged-first h p q ∙ ap neg_ℤ on

    level : turn D p q ≡ pos 0
    level =
        antisymmetric (entry-level D S h q p Q P on-other)
        (subst (λ z. pos 0 ≤ᶻ z) (sym (exchanged D q p)) (neg_nn (entry-level D S h p q P Q on)))
