-- Completeness: the parser hands back every lawful tree from the text that the tree spells. So no two lawful trees spell the same text.
use mathlib.Core.Path.{◌≡◌, refl, ap, sym, ◌∙◌}
use mathlib.Core.Bool.{Bool, true, false, cond}
use mathlib.Core.List.{List, [], ◌∷◌, ◌++◌}
use Prim.Native.Nat.{ℕ, zero, suc, ◌+◌, ◌*◌, ◌≤◌, ◌<◌}
use native.Mathlib.Omega.{arith}
use lib.Dec.{leb, eqb}
use lib.ListN.{length, length-append}
use borrow.Author.Tests.{le-leb, ne_eqb}
use Rattle.forms.specs.Value.{Value}
use Rattle.language.specs.Grammar.{Factor, Term, Side, Relation, Rule, number, rate_x, rate_y, minus, group, factor, times, term, plus, less, at_most, at_least, pad, spell_factor, spell_term, spell_side, spell_relation, spell, Digits, more, Number, LawfulFactor, LawfulTerm, LawfulSide, LawfulRule}
use Rattle.scanning.specs.Bytes.{first, digit, run, past}
use Rattle.language.specs.Parser.{Parsed, fail, got, bind, lead, skip, next, beyond, closed, number_at, factor_by, term_by, side_by, side_of, ended, right_of, relation_of, parse}
use Rattle.scanning.proofs.Runs.{run-digit, past-digit, run-other, past-other, run_none, past-none}
use Rattle.language.proofs.Steps.{factor-digit, factor-x, factor-y, factor-minus, factor-group, factors-end, terms-end}
use Rattle.language.proofs.Rules.{rule, right-got, relation-most, relation-least}
use Rattle.language.proofs.Chain.{Chain, Begins, Joins, terms, sides, one-factor, one-term, by_star, by_plus, by-minus}
use Rattle.language.proofs.Spaces.{lead-pad, skip-pad, skip_nil, lead_nil, first_spaces, skip_in, next_in, lead_in, length-pad, first-pad, in_pad, not-next}

-- ---- lengths

mutual
  unfolding spell_factor

  long-factor : (f : Factor) (r : List ℕ) → length r ≤ length (spell_factor f r)
  long-factor (number i ds) r = omega (arith, length-pad i (ds ++ r), length-append ds r)
  long-factor (rate_x i) r = omega (arith, length-pad i (120 ∷ r))
  long-factor (rate_y i) r = omega (arith, length-pad i (121 ∷ r))
  long-factor (minus i f) r = omega (arith, length-pad i (45 ∷ spell_factor f r), long-factor f r)
  long-factor (group i s j) r =
      omega (arith, length-pad i (40 ∷ spell_side s (pad j (41 ∷ r))), long-side s (pad j (41 ∷ r)), length-pad j (41 ∷ r))

  long-term : (t : Term) (r : List ℕ) → length r ≤ length (spell_term t r)
  long-term (factor f) r = long-factor f r
  long-term (times t i f) r =
      omega (arith, long-term t (pad i (42 ∷ spell_factor f r)), length-pad i (42 ∷ spell_factor f r), long-factor f r)

  long-side : (a : Side) (r : List ℕ) → length r ≤ length (spell_side a r)
  long-side (term t) r = long-term t r
  long-side (plus a i t) r = omega (arith, long-side a (pad i (43 ∷ spell_term t r)), length-pad i (43 ∷ spell_term t r), long-term t r)
  long-side (less a i t) r = omega (arith, long-side a (pad i (45 ∷ spell_term t r)), length-pad i (45 ∷ spell_term t r), long-term t r)

-- ---- numbers

digit-yes : (b : ℕ) → 48 ≤ b → b ≤ 57 → digit b ≡ true
digit-yes b l h = rw (le-leb 48 b l, le-leb b 57 h)

run_past : (ds r : List ℕ) →
    Digits ds →
    digit (first r) ≡ false →
    (run (ds ++ r) ≡ ds) × (past (ds ++ r) ≡ r)
run_past [] [] h e = (run_none, past-none)
run_past [] (b ∷ r) h e = (run-other b r e, past-other b r e)
run_past (b ∷ ds) r (more l u h) e =
    let z = run_past ds r h e in
    (run-digit b (ds ++ r) (digit-yes b l u) ∙ ap (λ (q : List ℕ). b ∷ q) z.0, past-digit b (ds ++ r) (digit-yes b l u) ∙ z.1)

number_complete : (k d i : ℕ) (ds r : List ℕ) →
    Number ds →
    digit (first r) ≡ false →
    factor_by (suc k) d (pad i (ds ++ r)) ≡ got (number i ds) r
number_complete k d i [] r n e = absurd (omega (arith, n.some))
number_complete k d i (b ∷ ds) r n e =
    let z = run_past (b ∷ ds) r n.digits e in
    let h = head n.digits in
    let s : List ℕ = pad i (b ∷ (ds ++ r)) in
    factor-digit k d s (ap digit (next_in i b (ds ++ r) h.1) ∙ h.0)
    ∙ ap (λ (j : ℕ). number_at j (skip s)) (lead_in i b (ds ++ r) h.1)
    ∙ ap (number_at i) (skip_in i b (ds ++ r) h.1)
    ∙ ap (λ (q : List ℕ). cond (leb (length q) 10) (got (number i q) (past (b ∷ (ds ++ r)))) fail) z.0
    ∙ ap (λ (q : List ℕ). cond (leb (length (b ∷ ds)) 10) (got (number i (b ∷ ds)) q) fail) z.1
    ∙ ap (λ (t : Bool). cond t (got (number i (b ∷ ds)) r) fail) (le-leb (length (b ∷ ds)) 10 n.few)
  where
    head : Digits (b ∷ ds) → (digit b ≡ true) × (eqb b 32 ≡ false)
    head (more l u h) = (digit-yes b l u, ne_eqb b 32 (λ e. absurd (omega (arith, l, e))))

-- ---- trees

-- what may follow a term, and a side
pub record AfterTerm (r : List ℕ) : Type 0 where
  pub no_digit : digit (first r) ≡ false
  pub no_star : eqb (next r) 42 ≡ false

pub record AfterSide (r : List ℕ) : Type 0 where
  pub term : AfterTerm r
  pub no_plus : eqb (next r) 43 ≡ false
  pub no_minus : eqb (next r) 45 ≡ false

after-term : (i b : ℕ) (r : List ℕ) →
    digit b ≡ false →
    eqb b 32 ≡ false →
    eqb b 42 ≡ false →
    AfterTerm (pad i (b ∷ r))
after-term i b r d s e = record { no_digit = first-pad i b r d; no_star = not-next i b 42 r s e }

after-side : (i b : ℕ) (r : List ℕ) →
    digit b ≡ false →
    eqb b 32 ≡ false →
    eqb b 42 ≡ false →
    eqb b 43 ≡ false →
    eqb b 45 ≡ false →
    AfterSide (pad i (b ∷ r))
after-side i b r d s e f g = record { term = after-term i b r d s e; no_plus = not-next i b 43 r s f; no_minus = not-next i b 45 r s g }

rate_x_complete : (k d i : ℕ) (r : List ℕ) → factor_by (suc k) d (pad i (120 ∷ r)) ≡ got (rate_x i) r
rate_x_complete k d i r = factor-x k d (pad i (120 ∷ r)) (next_in i 120 r refl) ∙ in_pad (λ j q. got (rate_x j) q) i 120 r refl

rate_y_complete : (k d i : ℕ) (r : List ℕ) → factor_by (suc k) d (pad i (121 ∷ r)) ≡ got (rate_y i) r
rate_y_complete k d i r = factor-y k d (pad i (121 ∷ r)) (next_in i 121 r refl) ∙ in_pad (λ j q. got (rate_y j) q) i 121 r refl

minus_complete : (k d i : ℕ) (f : Factor) (q r : List ℕ) →
    factor_by k d q ≡ got f r →
    factor_by (suc k) d (pad i (45 ∷ q)) ≡ got (minus i f) r
minus_complete k d i f q r e =
    factor-minus k d (pad i (45 ∷ q)) (next_in i 45 q refl)
    ∙ in_pad (λ j z. bind (factor_by k d z) (λ g w. got (minus j g) w)) i 45 q refl
    ∙ ap (λ (p : Parsed Factor). bind p (λ g w. got (minus i g) w)) e

group_complete : (k d i : ℕ) (a : Side) (j : ℕ) (q r : List ℕ) →
    side_by k d q ≡ got a (pad j (41 ∷ r)) →
    factor_by (suc k) (suc d) (pad i (40 ∷ q)) ≡ got (group i a j) r
group_complete k d i a j q r e =
    factor-group k (suc d) (pad i (40 ∷ q)) (next_in i 40 q refl)
    ∙ in_pad (λ n z. bind (side_by k d z) (λ b w. closed n b w)) i 40 q refl
    ∙ ap (λ (p : Parsed Side). bind p (λ b w. closed i b w)) e
    ∙ ap (λ (n : ℕ). cond (eqb n 41) (got (group i a (lead (pad j (41 ∷ r)))) (beyond (pad j (41 ∷ r)))) fail) (next_in j 41 r refl)
    ∙ in_pad (λ n z. got (group i a n) z) j 41 r refl

-- ---- chains

-- a whole read as far as its own last item, with fuel left for the rest
pub record ReadUpTo {A B : Type 0} (c : Chain A B) (k d : ℕ) (s : List ℕ) (b : B) (r : List ℕ) : Type 0 where
  pub fuel : ℕ
  pub same : c.whole_by k d s ≡ c.more (suc fuel) d b r
  pub enough : 3 * length r ≤ fuel

-- an item is read whole, with enough fuel
abbrev Takes : {A B : Type 0} → Chain A B → ℕ → List ℕ → A → List ℕ → Type 0
Takes c d s a r = (m : ℕ) → 3 * length s + c.extra < m → c.item_by m d s ≡ got a r

first_run : {A B : Type 0} {c : Chain A B} (o : Begins c) (k d : ℕ) (s : List ℕ) (a : A) (r : List ℕ) →
    3 * length s + suc c.extra < k →
    length r ≤ length s →
    Takes c d s a r →
    ReadUpTo c k d s (c.one a) r
first_run o zero d s a r e l h = absurd (omega (arith, e))
first_run o (suc zero) d s a r e l h = absurd (omega (arith, e))
first_run {A} {c = c} o (suc (suc k)) d s a r e l h =
    record {
      fuel = k;
      same = o.step (suc k) d s ∙ ap (λ (p : Parsed A). bind p (λ b w. c.more (suc k) d (c.one b) w)) (h (suc k) (omega (arith, e)));
      enough = omega (arith, e, l);
    }

next-run : {A B : Type 0} {c : Chain A B} {byte : ℕ} {join : B → ℕ → A → B} {op : Value → Value → Value} →
    (j : Joins c byte join op) (k d : ℕ) (s : List ℕ) (b : B) (i : ℕ) (a : A) (q r : List ℕ) →
    ReadUpTo c k d s b (pad i (byte ∷ q)) →
    Takes c d q a r →
    length r ≤ length q →
    ReadUpTo c k d s (join b i a) r
next-run {A} {c = c} {byte = byte} {join = join} j k d s b i a q r x h l = go x.fuel x.same x.enough
  where
    go : (m : ℕ) →
        c.whole_by k d s ≡ c.more (suc m) d b (pad i (byte ∷ q)) →
        3 * length (pad i (byte ∷ q)) ≤ m →
        ReadUpTo c k d s (join b i a) r
    go zero e g = absurd (omega (arith, g, length-pad i (byte ∷ q)))
    go (suc m) e g =
        record {
          fuel = m;
          same = e ∙ j.step (suc m) d (pad i (byte ∷ q)) b (next_in i byte q j.no_space)
              ∙ in_pad (λ n z. bind (c.item_by (suc m) d z) (λ o w. c.more (suc m) d (join b n o) w)) i byte q j.no_space
              ∙ ap (λ (p : Parsed A). bind p (λ o w. c.more (suc m) d (join b i o) w))
              (h (suc m) (omega (arith, g, length-pad i (byte ∷ q), j.few)));
          enough = omega (arith, g, l, length-pad i (byte ∷ q));
        }

-- with what may follow, reading stops there
term-stops : (k d : ℕ) (s : List ℕ) (t : Term) (r : List ℕ) →
    AfterTerm r →
    ReadUpTo terms k d s t r →
    term_by k d s ≡ got t r
term-stops k d s t r a x = x.same ∙ factors-end x.fuel d r t a.no_star

side-stops : (k d : ℕ) (s : List ℕ) (a : Side) (r : List ℕ) →
    AfterSide r →
    ReadUpTo sides k d s a r →
    side_by k d s ≡ got a r
side-stops k d s a r z x = x.same ∙ terms-end x.fuel d r a z.no_plus z.no_minus

mutual
  unfolding spell_factor LawfulFactor

  pub factor_complete : (f : Factor) (k d : ℕ) (r : List ℕ) →
      LawfulFactor f d →
      digit (first r) ≡ false →
      3 * length (spell_factor f r) < k →
      factor_by k d (spell_factor f r) ≡ got f r
  factor_complete (number i ds) zero d r l e h = absurd (omega (arith, h))
  factor_complete (number i ds) (suc k) d r l e h = number_complete k d i ds r l e
  factor_complete (rate_x i) zero d r l e h = absurd (omega (arith, h))
  factor_complete (rate_x i) (suc k) d r l e h = rate_x_complete k d i r
  factor_complete (rate_y i) zero d r l e h = absurd (omega (arith, h))
  factor_complete (rate_y i) (suc k) d r l e h = rate_y_complete k d i r
  factor_complete (minus i f) zero d r l e h = absurd (omega (arith, h))
  factor_complete (minus i f) (suc k) d r l e h =
      minus_complete k d i f (spell_factor f r) r (factor_complete f k d r l e (omega (arith, h, length-pad i (45 ∷ spell_factor f r))))
  factor_complete (group i s j) zero d r l e h = absurd (omega (arith, h))
  factor_complete (group i s j) (suc k) zero r l e h = absurd l
  factor_complete (group i s j) (suc k) (suc d) r l e h =
      group_complete k d i s j (spell_side s (pad j (41 ∷ r))) r
      (side-stops k d (spell_side s (pad j (41 ∷ r))) s (pad j (41 ∷ r)) (after-side j 41 r refl refl refl refl refl)
      (side-run s k d (pad j (41 ∷ r)) l (after-term j 41 r refl refl refl)
      (omega (arith, h, length-pad i (40 ∷ spell_side s (pad j (41 ∷ r)))))))

  pub term-run : (t : Term) (k d : ℕ) (r : List ℕ) →
      LawfulTerm t d →
      digit (first r) ≡ false →
      3 * length (spell_term t r) + 1 < k →
      ReadUpTo terms k d (spell_term t r) t r
  term-run (factor f) k d r l e h =
      first_run one-factor k d (spell_factor f r) f r h (long-factor f r) (λ m g. factor_complete f m d r l e (omega (arith, g)))
  term-run (times t i f) k d r l e h =
      next-run by_star k d (spell_term t (pad i (42 ∷ spell_factor f r))) t i f (spell_factor f r) r
      (term-run t k d (pad i (42 ∷ spell_factor f r)) l.0 (first-pad i 42 (spell_factor f r) refl) h)
      (λ m g. factor_complete f m d r l.1 e (omega (arith, g))) (long-factor f r)

  pub side-run : (a : Side) (k d : ℕ) (r : List ℕ) →
      LawfulSide a d →
      AfterTerm r →
      3 * length (spell_side a r) + 2 < k →
      ReadUpTo sides k d (spell_side a r) a r
  side-run (term t) k d r l z h =
      first_run one-term k d (spell_term t r) t r h (long-term t r)
      (λ m g. term-stops m d (spell_term t r) t r z (term-run t m d r l z.no_digit g))
  side-run (plus a i t) k d r l z h =
      next-run by_plus k d (spell_side a (pad i (43 ∷ spell_term t r))) a i t (spell_term t r) r
      (side-run a k d (pad i (43 ∷ spell_term t r)) l.0 (after-term i 43 (spell_term t r) refl refl refl) h)
      (λ m g. term-stops m d (spell_term t r) t r z (term-run t m d r l.1 z.no_digit g)) (long-term t r)
  side-run (less a i t) k d r l z h =
      next-run by-minus k d (spell_side a (pad i (45 ∷ spell_term t r))) a i t (spell_term t r) r
      (side-run a k d (pad i (45 ∷ spell_term t r)) l.0 (after-term i 45 (spell_term t r) refl refl refl) h)
      (λ m g. term-stops m d (spell_term t r) t r z (term-run t m d r l.1 z.no_digit g)) (long-term t r)

-- ---- a whole text

side_complete : (a : Side) (r : List ℕ) →
    LawfulSide a 8 →
    AfterSide r →
    side_of (spell_side a r) ≡ got a r
unfolding side_of
side_complete a r l z =
    side-stops (3 * length (spell_side a r) + 3) 8 (spell_side a r) a r z
    (side-run a (3 * length (spell_side a r) + 3) 8 r l z.term (omega arith))

none_left : (n : ℕ) → skip (pad n []) ≡ []
none_left n = skip-pad n [] skip_nil

lead-left : (n : ℕ) → lead (pad n []) ≡ n
lead-left n = lead-pad n [] lead_nil

end_after : (n : ℕ) → AfterSide (pad n [])
end_after n =
    record {
      term = record { no_digit = first_spaces n; no_star = ap (λ (q : List ℕ). eqb (first q) 42) (none_left n) };
      no_plus = ap (λ (q : List ℕ). eqb (first q) 43) (none_left n);
      no_minus = ap (λ (q : List ℕ). eqb (first q) 45) (none_left n);
    }

relation-after : (k : Relation) (n : ℕ) (r : List ℕ) → AfterSide (pad n (spell_relation k r))
unfolding spell_relation
relation-after at_most n r = after-side n 60 (61 ∷ r) refl refl refl refl refl
relation-after at_least n r = after-side n 62 (61 ∷ r) refl refl refl refl refl

right_complete : (a : Side) (i : ℕ) (k : Relation) (b : Side) (n : ℕ) →
    LawfulSide b 8 →
    right_of a i k (61 ∷ spell_side b (pad n [])) ≡ got (rule a i k b n) []
right_complete a i k b n l =
    right-got a i k (61 ∷ spell_side b (pad n [])) b (pad n []) refl (side_complete b (pad n []) l (end_after n))
    ∙ ap (λ (q : List ℕ). ended q (rule a i k b (lead (pad n [])))) (none_left n)
    ∙ ap (λ (m : ℕ). got (rule a i k b m) []) (lead-left n)

relation_complete : (a : Side) (i : ℕ) (k : Relation) (b : Side) (n : ℕ) →
    LawfulSide b 8 →
    relation_of a (pad i (spell_relation k (spell_side b (pad n [])))) ≡ got (rule a i k b n) []
unfolding spell_relation
relation_complete a i k b n l = go k
  where
    q : List ℕ
    q = 61 ∷ spell_side b (pad n [])

    by : (k : Relation) (c : ℕ) →
        eqb c 32 ≡ false →
        relation_of a (pad i (c ∷ q)) ≡ right_of a (lead (pad i (c ∷ q))) k (beyond (pad i (c ∷ q))) →
        relation_of a (pad i (c ∷ q)) ≡ got (rule a i k b n) []
    by k c e f = f ∙ in_pad (λ m z. right_of a m k z) i c q e ∙ right_complete a i k b n l

    go : (k : Relation) → relation_of a (pad i (spell_relation k (spell_side b (pad n [])))) ≡ got (rule a i k b n) []
    go at_most = by at_most 60 refl (relation-most a (pad i (60 ∷ q)) (next_in i 60 q refl))
    go at_least = by at_least 62 refl (relation-least a (pad i (62 ∷ q)) (next_in i 62 q refl))

pub parse_complete : (r : Rule) →
    LawfulSide r.left 8 →
    LawfulSide r.right 8 →
    parse (spell r) ≡ got r []
unfolding parse spell
parse_complete r l m =
    ap (λ (p : Parsed Side). bind p (λ a q. relation_of a q))
    (side_complete r.left (pad r.gap (spell_relation r.relation (spell_side r.right (pad r.end [])))) l
    (relation-after r.relation r.gap (spell_side r.right (pad r.end []))))
    ∙ relation_complete r.left r.gap r.relation r.right r.end m

same-rule : {r q : Rule} {s t : List ℕ} → got r s ≡ got q t → r ≡ q
same-rule e = cc

pub unique-sides : (r q : Rule) →
    LawfulSide r.left 8 →
    LawfulSide r.right 8 →
    LawfulSide q.left 8 →
    LawfulSide q.right 8 →
    spell r ≡ spell q →
    r ≡ q
unique-sides r q a b c d e = same-rule (sym (parse_complete r a b) ∙ ap parse e ∙ parse_complete q c d)

-- each text in one way: two lawful trees that spell the same text are equal
pub unique : (r q : Rule) → LawfulRule r → LawfulRule q → spell r ≡ spell q → r ≡ q
unique r q l m e = unique-sides r q l.left l.right m.left m.right e
