-- What a yes means on a book's bytes: for all bytes s that read as an accepted book, and every slip that gets a yes, whoever wrote it. A
-- refused book gets no yes.
use mathlib.Core.Path.{◌≡◌, sym, ◌∙◌, ap, subst}
use mathlib.Core.List.{List}
use mathlib.Core.Bool.{true}
use mathlib.Core.Logic.{◌↔◌}
use Prim.Native.Nat.{ℕ}
use Rattle.lp.specs.declared.Terms.{Terms}
use Rattle.lp.specs.declared.Point.{Point}
use Rattle.lp.specs.declared.Ray.{Ray}
use Rattle.lp.specs.declared.Outcome.TheVariants as outcome
use Rattle.lp.specs.Program.{system}
use Rattle.lp.specs.Textbook.{Infeasible, Unbounded}
use Rattle.records.specs.Layout.{v2}
use Rattle.book.specs.Reading.{Reading, refused, accepted, Entry, read_of, rules_of, records_of}
use Rattle.slip.specs.declared.Slip.{Slip}
use Rattle.slip.specs.declared.Verdict.TheVariants.{Yes}
use Rattle.slip.specs.Facts.{in_range, holds, verdict_of}
use Rattle.slip.specs.Numbers.{outcome_number}
use Rattle.slip_theory.specs.Words.{InWords}
use Rattle.slip_theory.proofs.Meaning as chain
use Rattle.slip_theory.proofs.Stated.{facts_in_words}

module _ (s : List ℕ) (t : Terms) (es : List Entry) (e : read_of v2 s ≡ accepted t es) where
  -- a yes for the bytes is one for the chain that they read as
  yes-chain : (slip : Slip) → verdict_of (read_of v2 s) slip ≡ Yes → verdict_of (accepted t es) slip ≡ Yes
  yes-chain slip y = ap (λ r. verdict_of r slip) (sym e) ∙ y

  -- yes exactly if every field is in range and document 02's facts hold
  pub yes-exactly : (slip : Slip) →
      (verdict_of (read_of v2 s) slip ≡ Yes)
      ↔ ((in_range t (records_of es) (rules_of es) slip.outcome slip.weights ≡ true)
      × (holds t (records_of es) (rules_of es) slip.outcome slip.weights ≡ true))
  yes-exactly slip = (
    (λ y. (chain.yes-exactly_if t (records_of es) (rules_of es) slip).0 (yes-chain slip y)),
    (λ x. ap (λ r. verdict_of r slip) e ∙ (chain.yes-exactly_if t (records_of es) (rules_of es) slip).1 x),
  )

  -- and the facts are document 02's words
  pub yes_in_words : (slip : Slip) →
      (verdict_of (read_of v2 s) slip ≡ Yes)
      ↔ ((in_range t (records_of es) (rules_of es) slip.outcome slip.weights ≡ true)
      × InWords t (records_of es) (rules_of es) slip.outcome slip.weights)
  yes_in_words slip = (
    (λ y. let x = (yes-exactly slip).0 y in
        (x.0, (facts_in_words t (records_of es) (rules_of es) slip.outcome slip.weights x.0).0 x.1)),
    (λ x. (yes-exactly slip).1
        (x.0, (facts_in_words t (records_of es) (rules_of es) slip.outcome slip.weights x.0).1 x.1)),
  )

  -- impossible: no pair of fractions of any size is allowed
  pub impossible-true : (slip : Slip) →
      verdict_of (read_of v2 s) slip ≡ Yes →
      slip.outcome ≡ outcome.Infeasible →
      Infeasible (system t.floors (rules_of es))
  impossible-true slip y o =
      subst (chain.Means t (records_of es) (rules_of es)) o (chain.yes-means t (records_of es) (rules_of es) slip (yes-chain slip y))

  -- unlimited: allowed pairs exist and gains have no top
  pub unlimited-true : (slip : Slip) →
      verdict_of (read_of v2 s) slip ≡ Yes →
      (v : Point) (d : Ray) →
      slip.outcome ≡ outcome.Unbounded v d →
      Unbounded (system t.floors (rules_of es)) t.objective
  unlimited-true slip y v d o =
      subst (chain.Means t (records_of es) (rules_of es)) o (chain.yes-means t (records_of es) (rules_of es) slip (yes-chain slip y))

  -- best: the pair is allowed and no allowed pair gains more
  pub best-true : (slip : Slip) →
      verdict_of (read_of v2 s) slip ≡ Yes →
      (v : Point) →
      slip.outcome ≡ outcome.Optimal v →
      chain.Best t (records_of es) (rules_of es) v
  best-true slip y v o =
      subst (chain.Means t (records_of es) (rules_of es)) o (chain.yes-means t (records_of es) (rules_of es) slip (yes-chain slip y))

-- two slips of one book that both get a yes say the same outcome
pub same_outcome : (s : List ℕ) (slip slip' : Slip) →
    verdict_of (read_of v2 s) slip ≡ Yes →
    verdict_of (read_of v2 s) slip' ≡ Yes →
    outcome_number slip.outcome ≡ outcome_number slip'.outcome
same_outcome s slip slip' y y' = go (read_of v2 s) y y'
  where
    go : (r : Reading) →
        verdict_of r slip ≡ Yes →
        verdict_of r slip' ≡ Yes →
        outcome_number slip.outcome ≡ outcome_number slip'.outcome
    go (refused n i) y y' = absurd (chain.not-refused n i y)
    go (accepted t es) y y' =
        chain.one-outcome t (records_of es) (rules_of es) slip.outcome slip'.outcome
        (chain.yes-means t (records_of es) (rules_of es) slip y) (chain.yes-means t (records_of es) (rules_of es) slip' y')
