-- The readers of numbers and factors against the parser: each case of the code gives what the reader promises, from what its callees
-- promise.
use mathlib.Core.Path.{◌≡◌, refl, ap, sym, ◌∙◌}
use mathlib.Core.Bool.{Bool, true, false, cond}
use mathlib.Core.List.{List}
use Prim.Native.Nat.{ℕ, zero, suc, ◌+◌, ◌-◌, ◌≤◌, ◌<◌}
use native.Mathlib.Omega.{arith}
use lib.Dec.{eqb}
use lib.IntN.{pos}
use lib.ListN.{length}
use borrow.Author.Tests.{le-leb, lt-leb}
use Rattle.ints.proofs.Machine.{within-numeral}
use Rattle.std.specs.Prelude.{Ok, Err, Some, None}
use Rattle.std.specs.Borrow.{Bor}
use Rattle.scanning.specs.Bytes.{tail, digit, run, past}
use Rattle.scanning.specs.Runs.{Runs}
use Rattle.scanning.proofs.Numbers.{capped-alike}
use Rattle.scanning.proofs.Runs.{run-some, run_past}
use Rattle.forms.specs.declared.Flaw.TheVariants.{Size}
use Rattle.forms.specs.Value.{Value, limit, form, numeral, negated, held}
use Rattle.forms.specs.Small.{Small, Valued}
use Rattle.forms.proofs.Held.{held_small}
use Rattle.language.specs.Grammar.{Factor, Side, number, minus, group}
use Rattle.language.specs.Value.{value_factor, value_side}
use Rattle.language.specs.Parser.{Parsed, fail, got, bind, lead, next, beyond, inner, closed, number_at, factor_by, side_by}
use Rattle.language.proofs.Steps.{factor-digit, factor-x, factor-y, factor-minus, factor-group, factor-other}
use Rattle.typed_rules.specs.Promises.{Step, valued, view, Moved, Enough, ReadsFactor, ReadsSide, ReadsNumber, closing, Closes}
use Rattle.typed_rules.proofs.Rests.{Item, skip_short, next-is, other, beyond-is, falls, moved_on, reached, spent}

-- ---- numbers

-- beyond the limit one number is as good as another
too_large : (n : ℕ) → limit < n → numeral n ≡ Err Size
unfolding numeral
too_large n h = rw (lt-leb n limit h)

module _ {text : List ℕ} {n : ℕ} (r : Bor (List ℕ)) (d : Runs limit text n r.now) where
  count : length r.now + length (run text) ≡ length text
  count = omega (arith, run_past text, ap length d.rest)

  pub digits-short : length r.now ≤ length text
  digits-short = omega (arith, count)

  pub number-yes : {w : Value} →
      length text - length r.now ≤ 10 →
      Valued (numeral n) w →
      ReadsNumber text (Some (w, r))
  unfolding value_factor
  number-yes {w} k v =
      record {
        same = λ i.
            ap (λ (t : Bool). valued value_factor (cond t (got (number i (run text)) (past text)) fail))
            (le-leb (length (run text)) 10 (omega (arith, count)))
            ∙ ap (λ (x : Value). got x (past text))
            (sym (v.same ∙ ap numeral d.number ∙ capped-alike numeral limit (Err Size) too_large 0 (run text)))
            ∙ ap (got w) (sym d.rest);
        moved = record { small = v.small; short = omega (arith, ap length d.rest) };
      }

  pub number_no : 10 < length text - length r.now → ReadsNumber text None
  number_no k =
      record {
        same =
            λ i. ap (λ (t : Bool). valued value_factor (cond t (got (number i (run text)) (past text)) fail))
            (lt-leb (length (run text)) 10 (omega (arith, count)));
        moved = tt;
      }

-- ---- the parenthesis after a side

pub closed-yes : {text i : List ℕ} {b : ℕ} {v : Value} {l : Bor (List ℕ)} →
    Item text i b →
    b ≡ 41 →
    l.now ≡ tail i →
    Small v →
    Closes text v (Some (v, l))
closed-yes {v = v} x e t h =
    record {
      same = rw (next-is x ∙ e) (ap (got v) (sym (beyond-is x t)));
      moved = record { small = h; short = falls x t (omega (arith, e)) };
    }

-- ---- factors

abbrev negating : Parsed Value → Parsed Value
negating p = bind p (λ v r. got (negated v) r)

minus-all : (i : ℕ) (p : Parsed Factor) → valued value_factor (bind p (λ f r. got (minus i f) r)) ≡ negating (valued value_factor p)
unfolding value_factor
minus-all i fail = refl
minus-all i (got f r) = refl

closed_all : (i : ℕ) (p : Parsed Side) → valued value_factor (bind p (λ a r. closed i a r)) ≡ bind (valued value_side p) closing
unfolding value_factor
closed_all i fail = refl
closed_all i (got a r) = go (eqb (next r) 41)
  where
    go : (t : Bool) → valued value_factor (cond t (got (group i a (lead r)) (beyond r)) fail) ≡ cond t (got (value_side a) (beyond r)) fail
    go true = refl
    go false = refl

-- every factor: some fuel is there
reads-factor : (text : List ℕ) (depth : ℕ) (r : Step) →
    ((k : ℕ) → Enough text 0 (suc k) → valued value_factor (factor_by (suc k) depth text) ≡ view r) →
    Moved (length text) r →
    ReadsFactor text depth r
reads-factor text depth r f m = record { same = go; moved = m }
  where
    go : (k : ℕ) → Enough text 0 k → valued value_factor (factor_by k depth text) ≡ view r
    go zero e = absurd (omega (arith, e))
    go (suc k) e = f k e

module _ {text i : List ℕ} {b : ℕ} (x : Item text i b) {depth : ℕ} where
  pub reads-number : {r : Step} →
      digit b ≡ true →
      ReadsNumber i r →
      ReadsFactor text depth r
  reads-number {r} d n =
      reads-factor text depth r
      (λ k e.
      ap (valued value_factor) (factor-digit k depth text (ap digit (next-is x) ∙ d))
      ∙ ap (λ (s : List ℕ). valued value_factor (number_at (lead text) s)) (sym x.begins)
      ∙ n.same (lead text))
      (moved_on (suc (length (past i))) (length text) r
      (omega (arith, run_past i, run-some i (ap digit (sym x.byte) ∙ d), ap length x.begins, skip_short text)) n.moved)

  reads_rate : (v : Value) {l : Bor (List ℕ)} →
      Small v →
      0 < b →
      l.now ≡ tail i →
      ((k : ℕ) → valued value_factor (factor_by (suc k) depth text) ≡ got v (beyond text)) →
      ReadsFactor text depth (Some (v, l))
  reads_rate v {l} h p t f =
      reads-factor text depth (Some (v, l)) (λ k e. f k ∙ ap (got v) (sym (beyond-is x t)))
      (record { small = h; short = falls x t p })

  pub reads-x : {l : Bor (List ℕ)} →
      b ≡ 120 →
      l.now ≡ tail i →
      ReadsFactor text depth (Some (Ok (form (pos 1) (pos 0) (pos 0)), l))
  unfolding value_factor
  reads-x e t =
      reads_rate (Ok (form (pos 1) (pos 0) (pos 0)))
      (record { a = within-numeral tt; b = within-numeral tt; c = within-numeral tt }) (omega (arith, e)) t
      (λ k. ap (valued value_factor) (factor-x k depth text (next-is x ∙ e)))

  pub reads_y : {l : Bor (List ℕ)} →
      b ≡ 121 →
      l.now ≡ tail i →
      ReadsFactor text depth (Some (Ok (form (pos 0) (pos 1) (pos 0)), l))
  unfolding value_factor
  reads_y e t =
      reads_rate (Ok (form (pos 0) (pos 1) (pos 0)))
      (record { a = within-numeral tt; b = within-numeral tt; c = within-numeral tt }) (omega (arith, e)) t
      (λ k. ap (valued value_factor) (factor-y k depth text (next-is x ∙ e)))

  -- what a minus makes of the step of the factor behind it
  after-minus : {l : List ℕ} {s : Step} (r : Step) →
      b ≡ 45 →
      l ≡ tail i →
      ReadsFactor l depth s →
      negating (view s) ≡ view r →
      Moved (length text) r →
      ReadsFactor text depth r
  after-minus {l} r e t f q m =
      reads-factor text depth r
      (λ k h.
      ap (valued value_factor) (factor-minus k depth text (next-is x ∙ e))
      ∙ minus-all (lead text) (factor_by k depth (beyond text))
      ∙ ap (λ (z : List ℕ). negating (valued value_factor (factor_by k depth z))) (sym (beyond-is x t))
      ∙ ap negating (f.same k (spent text l 0 k (falls x t (omega (arith, e))) (omega arith) h))
      ∙ q) m

  pub reads-minus : {l : List ℕ} {s : Step} {v u : Value} {m : Bor (List ℕ)} →
      b ≡ 45 →
      l ≡ tail i →
      ReadsFactor l depth s →
      s ≡ Some (v, m) →
      Valued (negated (held v)) u →
      ReadsFactor text depth (Some (u, m))
  reads-minus {l} {v = v} {u = u} {m = m} e t f q n =
      let p = reached (length l) q f.moved in
      after-minus (Some (u, m)) e t f
      (ap (λ (z : Step). negating (view z)) q ∙ ap (λ (z : Value). got z m.now) (sym (n.same ∙ ap negated (held_small v p.small))))
      (record { small = n.small; short = omega (arith, p.short, falls x t (omega (arith, e))) })

  pub minus_fails : {l : List ℕ} {s : Step} →
      b ≡ 45 →
      l ≡ tail i →
      ReadsFactor l depth s →
      s ≡ None →
      ReadsFactor text depth None
  minus_fails e t f q = after-minus None e t f (ap (λ (z : Step). negating (view z)) q) tt

  -- what a parenthesis makes of the step of the side behind it, one level further in
  after-open : {l : List ℕ} {s : Step} (d : ℕ) (r : Step) →
      b ≡ 40 →
      depth ≡ suc d →
      l ≡ tail i →
      ReadsSide l d s →
      bind (view s) closing ≡ view r →
      Moved (length text) r →
      ReadsFactor text depth r
  after-open {l} d r e h t f q m =
      reads-factor text depth r
      (λ k g.
      ap (valued value_factor) (factor-group k depth text (next-is x ∙ e))
      ∙ closed_all (lead text) (inner depth (λ j. side_by k j (beyond text)))
      ∙ ap (λ (z : ℕ). bind (valued value_side (inner z (λ j. side_by k j (beyond text)))) closing) h
      ∙ ap (λ (z : List ℕ). bind (valued value_side (side_by k d z)) closing) (sym (beyond-is x t))
      ∙ ap (λ (z : Parsed Value). bind z closing) (f.same k (spent text l 2 k (falls x t (omega (arith, e))) (omega arith) g))
      ∙ q) m

  pub reads-group : {l : List ℕ} {s r : Step} {d : ℕ} {v : Value} {m : Bor (List ℕ)} →
      b ≡ 40 →
      depth ≡ suc d →
      l ≡ tail i →
      ReadsSide l d s →
      s ≡ Some (v, m) →
      Closes m.now v r →
      ReadsFactor text depth r
  reads-group {l} {r = r} {d = d} {m = m} e h t f q c =
      let p = reached (length l) q f.moved in
      after-open d r e h t f (ap (λ (z : Step). bind (view z) closing) q ∙ c.same)
      (moved_on (length m.now) (length text) r (omega (arith, p.short, falls x t (omega (arith, e)))) c.moved)

  pub group_fails : {l : List ℕ} {s : Step} {d : ℕ} →
      b ≡ 40 →
      depth ≡ suc d →
      l ≡ tail i →
      ReadsSide l d s →
      s ≡ None →
      ReadsFactor text depth None
  group_fails {d = d} e h t f q = after-open d None e h t f (ap (λ (z : Step). bind (view z) closing) q) tt

  pub reads_deep : b ≡ 40 → depth ≡ 0 → ReadsFactor text depth None
  reads_deep e h =
      reads-factor text depth None
      (λ k _.
      ap (valued value_factor)
      (factor-group k depth text (next-is x ∙ e)
      ∙ ap (λ (d : ℕ). bind (inner d (λ j. side_by k j (beyond text))) (λ a r. closed (lead text) a r)) h))
      tt

  pub reads_other :
      digit b ≡ false →
      (b ≡ 120 → ⊥) →
      (b ≡ 121 → ⊥) →
      (b ≡ 45 → ⊥) →
      (b ≡ 40 → ⊥) →
      ReadsFactor text depth None
  reads_other a p q m o =
      reads-factor text depth None
      (λ k _. ap (valued value_factor)
      (factor-other k depth text (ap digit (next-is x) ∙ a) (other x 120 p) (other x 121 q) (other x 45 m) (other x 40 o)))
      tt
