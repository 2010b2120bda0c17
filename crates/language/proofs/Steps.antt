-- The parser step by step: what each reader does at each next byte.
use mathlib.Core.Path.{◌≡◌, refl}
use mathlib.Core.Bool.{true, false}
use mathlib.Core.List.{List}
use Prim.Native.Nat.{ℕ, suc}
use lib.Dec.{eqb}
use Rattle.language.specs.Grammar.{Term, Side, rate_x, rate_y, minus, factor, times, term, plus, less}
use Rattle.scanning.specs.Bytes.{digit}
use Rattle.language.specs.Parser.{fail, got, bind, lead, skip, next, beyond, inner, closed, number_at, factor_by, term_by, more_factors, side_by, more_terms}

module _ (k d : ℕ) (s : List ℕ) where
  pub factor-digit : digit (next s) ≡ true → factor_by (suc k) d s ≡ number_at (lead s) (skip s)
  unfolding factor_by
  factor-digit e = rw e

  pub factor-x : next s ≡ 120 → factor_by (suc k) d s ≡ got (rate_x (lead s)) (beyond s)
  unfolding factor_by
  factor-x e = rw e

  pub factor-y : next s ≡ 121 → factor_by (suc k) d s ≡ got (rate_y (lead s)) (beyond s)
  unfolding factor_by
  factor-y e = rw e

  pub factor-minus : next s ≡ 45 → factor_by (suc k) d s ≡ bind (factor_by k d (beyond s)) (λ f r. got (minus (lead s) f) r)
  unfolding factor_by
  factor-minus e = rw e

  pub factor-group : next s ≡ 40 → factor_by (suc k) d s ≡ bind (inner d (λ e. side_by k e (beyond s))) (λ a r. closed (lead s) a r)
  unfolding factor_by
  factor-group e = rw e

  pub factor-other :
      digit (next s) ≡ false →
      eqb (next s) 120 ≡ false →
      eqb (next s) 121 ≡ false →
      eqb (next s) 45 ≡ false →
      eqb (next s) 40 ≡ false →
      factor_by (suc k) d s ≡ fail
  unfolding factor_by
  factor-other a b c e f = rw (a, b, c, e, f)

  pub term-step : term_by (suc k) d s ≡ bind (factor_by k d s) (λ f r. more_factors k d (factor f) r)
  unfolding factor_by
  term-step = refl

  pub side-step : side_by (suc k) d s ≡ bind (term_by k d s) (λ t r. more_terms k d (term t) r)
  unfolding factor_by
  side-step = refl

  pub factors_star : (t : Term) →
      next s ≡ 42 →
      more_factors (suc k) d t s ≡ bind (factor_by k d (beyond s)) (λ f r. more_factors k d (times t (lead s) f) r)
  unfolding factor_by
  factors_star t e = rw e

  pub factors-end : (t : Term) → eqb (next s) 42 ≡ false → more_factors (suc k) d t s ≡ got t s
  unfolding factor_by
  factors-end t e = rw e

  pub terms-plus : (a : Side) →
      next s ≡ 43 →
      more_terms (suc k) d a s ≡ bind (term_by k d (beyond s)) (λ t r. more_terms k d (plus a (lead s) t) r)
  unfolding factor_by
  terms-plus a e = rw e

  pub terms-less : (a : Side) →
      next s ≡ 45 →
      more_terms (suc k) d a s ≡ bind (term_by k d (beyond s)) (λ t r. more_terms k d (less a (lead s) t) r)
  unfolding factor_by
  terms-less a e = rw e

  pub terms-end : (a : Side) →
      eqb (next s) 43 ≡ false →
      eqb (next s) 45 ≡ false →
      more_terms (suc k) d a s ≡ got a s
  unfolding factor_by
  terms-end a e f = rw (e, f)
