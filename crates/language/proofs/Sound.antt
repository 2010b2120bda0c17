-- Soundness: what the parser hands back is a lawful tree, and the text is what the tree spells.
use mathlib.Core.Path.{◌≡◌, refl, ap, ◌∙◌}
use mathlib.Core.Bool.{Bool, true, false, cond}
use mathlib.Core.List.{List, [], ◌∷◌, ◌++◌}
use Prim.Native.Nat.{ℕ, zero, suc, ◌+◌, ◌*◌, ◌<◌}
use native.Mathlib.Omega.{arith}
use lib.Dec.{leb, eqb}
use lib.ListN.{length}
use borrow.Author.Tests.{leb-true, eqb-true}
use Rattle.forms.specs.Value.{Value}
use Rattle.language.specs.Grammar.{Factor, Term, Side, Relation, Rule, number, rate_x, rate_y, minus, group, at_most, at_least, pad, spell_factor, spell_term, spell_side, spell_relation, spell, Digits, none, more, LawfulFactor, LawfulTerm, LawfulSide}
use Rattle.scanning.specs.Bytes.{first, tail, digit, run, past}
use Rattle.language.specs.Parser.{Parsed, fail, got, bind, lead, skip, next, beyond, inner, closed, number_at, factor_by, term_by, more_factors, side_by, more_terms, side_of, ended, right_of, relation_of, parse}
use Rattle.scanning.proofs.Runs.{digit_range, run-some}
use Rattle.language.proofs.Chain.{Chain, Begins, Joins, one-factor, one-term, by_star, by_plus, by-minus}
use Rattle.language.proofs.Rules.{rule}

-- ---- bytes

-- spaces and what comes after them
pub led : (s : List ℕ) → s ≡ pad (lead s) (skip s)
unfolding lead skip pad
led [] = refl
led (b ∷ s) = go (eqb b 32) refl (led s)
  where
    go : (t : Bool) → eqb b 32 ≡ t → s ≡ pad (lead s) (skip s) → b ∷ s ≡ pad (cond t (suc (lead s)) 0) (cond t (skip s) (b ∷ s))
    go true e h = ap (λ (c : ℕ). c ∷ s) (eqb-true b 32 e) ∙ ap (λ (q : List ℕ). 32 ∷ q) h
    go false e h = refl

-- a byte that is not 0 is the first of a text
front : (s : List ℕ) (b : ℕ) → 0 < b → first s ≡ b → s ≡ b ∷ tail s
front [] b h e = absurd (omega (arith, e, h))
front (c ∷ s) b h e = ap (λ (z : ℕ). z ∷ s) e

-- the next item with the spaces before it
item : (s : List ℕ) (b : ℕ) → 0 < b → next s ≡ b → s ≡ pad (lead s) (b ∷ beyond s)
item s b h e = led s ∙ ap (pad (lead s)) (front (skip s) b h e)

-- digits and what comes after them
ran : (s : List ℕ) → s ≡ run s ++ past s
unfolding run past
ran [] = refl
ran (b ∷ s) = go (digit b) (ran s)
  where
    go : (t : Bool) → s ≡ run s ++ past s → b ∷ s ≡ cond t (b ∷ run s) [] ++ cond t (past s) (b ∷ s)
    go true h = ap (λ (q : List ℕ). b ∷ q) h
    go false h = refl

run-digits : (s : List ℕ) → Digits (run s)
unfolding run
run-digits [] = none
run-digits (b ∷ s) = go (digit b) refl (run-digits s)
  where
    go : (t : Bool) → digit b ≡ t → Digits (run s) → Digits (cond t (b ∷ run s) [])
    go true e h = more (digit_range b e).0 (digit_range b e).1 h
    go false e h = none

-- ---- what was parsed

pub record Spelt {A : Type 0} (spelling : A → List ℕ → List ℕ) (lawful : A → Type 0) (s : List ℕ) (a : A) (r : List ℕ) : Type 0 where
  pub text : s ≡ spelling a r
  pub law : lawful a

abbrev pub SoundParse : {A : Type 0} → (A → List ℕ → List ℕ) → (A → Type 0) → List ℕ → Parsed A → Type 0
SoundParse spelling lawful s fail = Unit {0}
SoundParse spelling lawful s (got a r) = Spelt spelling lawful s a r

abbrev pub SoundFactor : ℕ → List ℕ → Parsed Factor → Type 0
SoundFactor d s p = SoundParse spell_factor (λ f. LawfulFactor f d) s p

abbrev pub SoundTerm : ℕ → List ℕ → Parsed Term → Type 0
SoundTerm d s p = SoundParse spell_term (λ t. LawfulTerm t d) s p

abbrev pub SoundSide : ℕ → List ℕ → Parsed Side → Type 0
SoundSide d s p = SoundParse spell_side (λ a. LawfulSide a d) s p

number-sound : (d : ℕ) (s : List ℕ) → digit (next s) ≡ true → SoundFactor d s (number_at (lead s) (skip s))
unfolding spell_factor LawfulFactor
number-sound d s e = go (leb (length (run (skip s))) 10) refl
  where
    go : (t : Bool) →
        leb (length (run (skip s))) 10 ≡ t →
        SoundFactor d s (cond t (got (number (lead s) (run (skip s))) (past (skip s))) fail)
    go true h =
        record {
          text = led s ∙ ap (pad (lead s)) (ran (skip s));
          law = record { digits = run-digits (skip s); some = run-some (skip s) e; few = leb-true (length (run (skip s))) 10 h };
        }
    go false h = tt

rate_x_sound : (d : ℕ) (s : List ℕ) → next s ≡ 120 → SoundFactor d s (got (rate_x (lead s)) (beyond s))
unfolding spell_factor LawfulFactor
rate_x_sound d s e = record { text = item s 120 (omega arith) e; law = tt }

rate_y_sound : (d : ℕ) (s : List ℕ) → next s ≡ 121 → SoundFactor d s (got (rate_y (lead s)) (beyond s))
unfolding spell_factor LawfulFactor
rate_y_sound d s e = record { text = item s 121 (omega arith) e; law = tt }

minus-sound : (d : ℕ) (s : List ℕ) →
    next s ≡ 45 →
    (p : Parsed Factor) →
    SoundFactor d (beyond s) p →
    SoundFactor d s (bind p (λ f r. got (minus (lead s) f) r))
unfolding spell_factor LawfulFactor
minus-sound d s e fail h = tt
minus-sound d s e (got f r) h =
    record { text = item s 45 (omega arith) e ∙ ap (λ (q : List ℕ). pad (lead s) (45 ∷ q)) h.text; law = h.law }

group-sound : (d : ℕ) (s : List ℕ) →
    next s ≡ 40 →
    (p : Parsed Side) →
    SoundSide d (beyond s) p →
    SoundFactor (suc d) s (bind p (λ a r. closed (lead s) a r))
unfolding spell_factor LawfulFactor
group-sound d s e fail h = tt
group-sound d s e (got a r) h = go (eqb (next r) 41) refl
  where
    go : (t : Bool) → eqb (next r) 41 ≡ t → SoundFactor (suc d) s (cond t (got (group (lead s) a (lead r)) (beyond r)) fail)
    go true f =
        record {
          text =
              item s 40 (omega arith) e
              ∙ ap (λ (q : List ℕ). pad (lead s) (40 ∷ q))
              (h.text ∙ ap (spell_side a) (item r 41 (omega arith) (eqb-true (next r) 41 f)));
          law = h.law;
        }
    go false f = tt

inner-sound : (d : ℕ) (s : List ℕ) →
    next s ≡ 40 →
    (f : ℕ → Parsed Side) →
    ((e : ℕ) → SoundSide e (beyond s) (f e)) →
    SoundFactor d s (bind (inner d f) (λ a r. closed (lead s) a r))
inner-sound zero s e f h = tt
inner-sound (suc d) s e f h = group-sound d s e (f d) (h d)

-- a test's two branches
branch : {A : Type 0} (Q : Parsed A → Type 0) (t : Bool) (l r : Parsed A) →
    (t ≡ true → Q l) →
    (t ≡ false → Q r) →
    Q (cond t l r)
branch Q true l r f g = f refl
branch Q false l r f g = g refl

-- ---- chains

abbrev SoundItem : {A B : Type 0} → Chain A B → ℕ → List ℕ → Parsed A → Type 0
SoundItem c d s p = SoundParse c.spell-item (λ a. c.LawfulItem a d) s p

abbrev SoundWhole : {A B : Type 0} → Chain A B → ℕ → List ℕ → Parsed B → Type 0
SoundWhole c d s p = SoundParse c.spell-whole (λ b. c.LawfulWhole b d) s p

-- a reader of what follows that is sound after every whole
abbrev SoundMore : {A B : Type 0} → Chain A B → ℕ → (B → List ℕ → Parsed B) → Type 0
SoundMore {A} {B} c d m = (b : B) (r s : List ℕ) → c.LawfulWhole b d → s ≡ c.spell-whole b r → SoundWhole c d s (m b r)

first-sound : {A B : Type 0} {c : Chain A B} (o : Begins c) (d : ℕ) (s : List ℕ) (p : Parsed A) →
    SoundItem c d s p →
    (m : B → List ℕ → Parsed B) →
    SoundMore c d m →
    SoundWhole c d s (bind p (λ a r. m (c.one a) r))
first-sound o d s fail h m g = tt
first-sound {c = c} o d s (got a r) h m g = g (c.one a) r s (o.lawful a d h.law) (h.text ∙ o.spelt a r)

next-sound : {A B : Type 0} {c : Chain A B} {byte : ℕ} {join : B → ℕ → A → B} {op : Value → Value → Value} →
    (j : Joins c byte join op) (d : ℕ) (b : B) (r s : List ℕ) →
    c.LawfulWhole b d →
    s ≡ c.spell-whole b r →
    eqb (next r) byte ≡ true →
    (p : Parsed A) →
    SoundItem c d (beyond r) p →
    (m : B → List ℕ → Parsed B) →
    SoundMore c d m →
    SoundWhole c d s (bind p (λ a w. m (join b (lead r) a) w))
next-sound j d b r s l e n fail h m g = tt
next-sound {c = c} {byte = byte} {join = join} j d b r s l e n (got a w) h m g =
    g (join b (lead r) a) w s (j.lawful b (lead r) a d l h.law)
    (e
    ∙ ap (c.spell-whole b) (item r byte j.some (eqb-true (next r) byte n) ∙ ap (λ (q : List ℕ). pad (lead r) (byte ∷ q)) h.text)
    ∙ j.spelt b (lead r) a w)

mutual
  unfolding factor_by

  pub factor-sound : (k d : ℕ) (s : List ℕ) → SoundFactor d s (factor_by k d s)
  factor-sound zero d s = tt
  factor-sound (suc k) d s =
      branch (SoundFactor d s) (digit (next s)) _ _ (number-sound d s)
      (λ _. branch (SoundFactor d s) (eqb (next s) 120) _ _ (λ e. rate_x_sound d s (eqb-true (next s) 120 e))
      (λ _. branch (SoundFactor d s) (eqb (next s) 121) _ _ (λ e. rate_y_sound d s (eqb-true (next s) 121 e))
      (λ _. branch (SoundFactor d s) (eqb (next s) 45) _ _
      (λ e. minus-sound d s (eqb-true (next s) 45 e) (factor_by k d (beyond s)) (factor-sound k d (beyond s)))
      (λ _. branch (SoundFactor d s) (eqb (next s) 40) _ _
      (λ e. inner-sound d s (eqb-true (next s) 40 e) (λ j. side_by k j (beyond s)) (λ j. side-sound k j (beyond s)))
      (λ _. tt)))))

  pub term-sound : (k d : ℕ) (s : List ℕ) → SoundTerm d s (term_by k d s)
  term-sound zero d s = tt
  term-sound (suc k) d s =
      first-sound one-factor d s (factor_by k d s) (factor-sound k d s) (more_factors k d) (λ b w z m h. factors-sound k d b w z m h)

  pub factors-sound : (k d : ℕ) (t : Term) (r q : List ℕ) →
      LawfulTerm t d →
      q ≡ spell_term t r →
      SoundTerm d q (more_factors k d t r)
  factors-sound zero d t r q l e = tt
  factors-sound (suc k) d t r q l e =
      branch (SoundTerm d q) (eqb (next r) 42) _ _
      (λ f. next-sound by_star d t r q l e f (factor_by k d (beyond r)) (factor-sound k d (beyond r)) (more_factors k d)
      (λ b w z m h. factors-sound k d b w z m h))
      (λ _. record { text = e; law = l })

  pub side-sound : (k d : ℕ) (s : List ℕ) → SoundSide d s (side_by k d s)
  side-sound zero d s = tt
  side-sound (suc k) d s =
      first-sound one-term d s (term_by k d s) (term-sound k d s) (more_terms k d) (λ b w z m h. terms-sound k d b w z m h)

  pub terms-sound : (k d : ℕ) (a : Side) (r q : List ℕ) →
      LawfulSide a d →
      q ≡ spell_side a r →
      SoundSide d q (more_terms k d a r)
  terms-sound zero d a r q l e = tt
  terms-sound (suc k) d a r q l e =
      branch (SoundSide d q) (eqb (next r) 43) _ _
      (λ f. next-sound by_plus d a r q l e f (term_by k d (beyond r)) (term-sound k d (beyond r)) (more_terms k d)
      (λ b w z m h. terms-sound k d b w z m h))
      (λ _. branch (SoundSide d q) (eqb (next r) 45) _ _
      (λ f. next-sound by-minus d a r q l e f (term_by k d (beyond r)) (term-sound k d (beyond r)) (more_terms k d)
      (λ b w z m h. terms-sound k d b w z m h))
      (λ _. record { text = e; law = l }))

-- ---- a whole text

side_of-sound : (s : List ℕ) → SoundSide 8 s (side_of s)
unfolding side_of
side_of-sound s = side-sound (3 * length s + 3) 8 s

pub record SpeltRule (s : List ℕ) (r : Rule) : Type 0 where
  pub text : s ≡ spell r
  pub left : LawfulSide r.left 8
  pub right : LawfulSide r.right 8

abbrev pub SoundRule : List ℕ → Parsed Rule → Type 0
SoundRule s fail = Unit {0}
SoundRule s (got r q) = SpeltRule s r

ended-sound : (s q : List ℕ) (a : Side) (i : ℕ) (k : Relation) (b : Side) →
    LawfulSide a 8 →
    LawfulSide b 8 →
    s ≡ spell_side a (pad i (spell_relation k (spell_side b q))) →
    (z : List ℕ) →
    skip q ≡ z →
    SoundRule s (ended z (rule a i k b (lead q)))
unfolding spell
ended-sound s q a i k b l m e [] f =
    record {
      text = e
          ∙ ap (λ (x : List ℕ). spell_side a (pad i (spell_relation k (spell_side b x)))) (led q ∙ ap (pad (lead q)) f);
      left = l;
      right = m;
    }
ended-sound s q a i k b l m e (c ∷ z) f = tt

right-sound : (s : List ℕ) (a : Side) (i : ℕ) (k : Relation) (w : List ℕ) →
    LawfulSide a 8 →
    (first w ≡ 61 → s ≡ spell_side a (pad i (spell_relation k (tail w)))) →
    SoundRule s (right_of a i k w)
unfolding right_of
right-sound s a i k w l e = go (eqb (first w) 61) refl
  where
    after :
        first w ≡ 61 → (p : Parsed Side) →
        SoundSide 8 (tail w) p →
        SoundRule s (bind p (λ b r. ended (skip r) (rule a i k b (lead r))))
    after f fail h = tt
    after f (got b q) h =
        ended-sound s q a i k b l h.law (e f ∙ ap (λ (x : List ℕ). spell_side a (pad i (spell_relation k x))) h.text) (skip q) refl

    go : (t : Bool) →
        eqb (first w) 61 ≡ t →
        SoundRule s (cond t (bind (side_of (tail w)) (λ b r. ended (skip r) (rule a i k b (lead r)))) fail)
    go true f = after (eqb-true (first w) 61 f) (side_of (tail w)) (side_of-sound (tail w))
    go false f = tt

relation-sound : (s : List ℕ) (a : Side) (r : List ℕ) →
    LawfulSide a 8 →
    s ≡ spell_side a r →
    SoundRule s (relation_of a r)
unfolding relation_of spell_relation
relation-sound s a r l e =
    branch (SoundRule s) (eqb (next r) 60) _ _ (by at_most 60 (omega arith) (λ x. refl))
    (λ _. branch (SoundRule s) (eqb (next r) 62) _ _ (by at_least 62 (omega arith) (λ x. refl)) (λ _. tt))
  where
    by : (k : Relation) (b : ℕ) →
        0 < b →
        ((x : List ℕ) → b ∷ 61 ∷ x ≡ spell_relation k x) →
        eqb (next r) b ≡ true →
        SoundRule s (right_of a (lead r) k (beyond r))
    by k b h p f =
        right-sound s a (lead r) k (beyond r) l
        (λ g. e ∙ ap (spell_side a)
        (item r b h (eqb-true (next r) b f) ∙ ap (λ (x : List ℕ). pad (lead r) (b ∷ x)) (front (beyond r) 61 (omega arith) g)
        ∙ ap (pad (lead r)) (p (tail (beyond r)))))

pub parse-sound : (s : List ℕ) → SoundRule s (parse s)
unfolding parse
parse-sound s = go (side_of s) (side_of-sound s)
  where
    go : (p : Parsed Side) → SoundSide 8 s p → SoundRule s (bind p (λ a r. relation_of a r))
    go fail h = tt
    go (got a r) h = relation-sound s a r h.law h.text
