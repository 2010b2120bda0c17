-- What the promise of `start_after` says of a book, in the textbook's words, whatever its layout. Each theorem takes that promise and
-- nothing else of the code; the last one, which compares two calls, that of `plan` too.
use mathlib.Core.Path.{◌≡◌, refl, sym, ◌∙◌, ap}
use mathlib.Core.List.{List}
use mathlib.Core.Logic.{◌↔◌}
use Prim.Native.Nat.{ℕ, ◌≤◌, ◌<◌}
use native.Mathlib.Omega.{arith}
use lib.ListN.{length, take, length-take}
use lib.Seq.{take_all}
use Rattle.lp.specs.declared.Constraint.{Constraint}
use Rattle.lp.specs.declared.Terms.{Terms}
use Rattle.lp.specs.declared.Point.{Point}
use Rattle.lp.specs.declared.Ray.{Ray}
use Rattle.lp.specs.declared.Outcome.TheVariants as outcome
use Rattle.lp.specs.Program.{Feasible, system}
use Rattle.lp.specs.Textbook.{Infeasible, NoLater}
use Rattle.lp.specs.Start.{Start, none, at, start_of, restarts}
use Rattle.lp.specs.Document.{tie}
use Rattle.records.specs.Layout.{Layout}
use Rattle.book.specs.Reading.{Reading, refused, accepted, Entry, read_of, rules_of}
use Rattle.book.proofs.Bounds.{chain-count, count_room}
use Rattle.std.proofs.Common.{Some, None, Result, Ok}
use Rattle.answers.specs.Answer.{Answer}
use Rattle.answers.specs.declared.Refusal.{Refusal}
use Rattle.answers.specs.declared.Plan.{Plan}
use Rattle.theory.proofs.Ties.{tie_good}
use Rattle.theory.proofs.Theorems.{FirstPoint}
use Rattle.theory.proofs.Words.{first_in_words}
use Rattle.theory.proofs.Starts.{none-exactly, at_first, unbounded_start, restarts-at-most}
use Rattle.planner.proofs.Chains.{length-rules}
use Rattle.planner.proofs.Demands.{planned}
use Rattle.planner.specs.declared.StartView.{StartView}
use Rattle.planner.specs.Planning.{Answers}
use Rattle.planner.specs.View.{viewed, start_view, unseen, view_of, Views}

-- a refused book: its refusal, and nothing else
pub refused-seen : (L : Layout) (s : List ℕ) (k : ℕ) (v : Result StartView Refusal) →
    Views L s k v →
    (n r : ℕ) →
    read_of L s ≡ refused n r →
    v ≡ unseen n r
refused-seen L s k v h n r e = h.answer ∙ ap (λ (x : Reading). view_of x k) e

module _ (L : Layout) (s : List ℕ) (k : ℕ) (v : Result StartView Refusal) (h : Views L s k v)
    (t : Terms) (es : List Entry) (e : read_of L s ≡ accepted t es) where
  -- the first k rules, or all where there are fewer
  abbrev rules : List Constraint
  rules = take k (rules_of es)

  abbrev start : Start
  start = start_of tie t.floors rules

  pub accepted-seen : v ≡ Ok (start_view t.floors rules)
  accepted-seen = h.answer ∙ ap (λ (x : Reading). view_of x k) e

  at_most : restarts tie t.floors rules ≤ length rules
  at_most = restarts-at-most tie tie_good t.floors t.objective rules

  -- an accepted book has a view x
  module _ (x : StartView) (q : v ≡ Ok x) where
    view-is : x ≡ start_view t.floors rules
    view-is = let both : ◌≡◌ {A = Result StartView Refusal} (Ok x) (Ok (start_view t.floors rules)) = sym q ∙ accepted-seen in cc

    -- the count is the definition's, and never above the prefix's length
    count-of : (y : Start) (n : ℕ) → (viewed y n).restarts ≡ n
    count-of none n = refl
    count-of (at u) n = refl

    pub restarts-seen : x.restarts ≡ restarts tie t.floors rules
    restarts-seen = ap (λ (y : StartView). y.restarts) view-is ∙ count-of start (restarts tie t.floors rules)

    pub restarts-few : x.restarts ≤ k
    restarts-few = omega (arith, restarts-seen, at_most, length-take k (rules_of es))

    -- nor above a book's greatest number of rules
    pub restarts-within : x.restarts < L.records
    restarts-within =
        omega (arith, restarts-seen, at_most, length-take k (rules_of es), length-rules es, chain-count L s e, count_room L s e)

    start-is : x.start ≡ (viewed start (restarts tie t.floors rules)).start
    start-is = ap (λ (y : StartView). y.start) view-is

    -- no pair is held exactly where the prefix allows none
    not-held : (y : Start) (n : ℕ) → (viewed y n).start ≡ None → y ≡ none
    not-held none n p = refl
    not-held (at u) n p = cc

    pub none-held-exactly : (x.start ≡ None) ↔ Infeasible (system t.floors rules)
    none-held-exactly = (
      (λ p. (none-exactly tie tie_good t.floors t.objective rules).0 (not-held start (restarts tie t.floors rules) (sym start-is ∙ p))),
      (λ no_pair. start-is
          ∙ ap (λ (y : Start). (viewed y (restarts tie t.floors rules)).start)
          ((none-exactly tie tie_good t.floors t.objective rules).1 no_pair)),
    )

    -- and a pair that is held is the first allowed one by the tie, reduced
    held_at : (y : Start) (n : ℕ) (u : Point) → (viewed y n).start ≡ Some u → y ≡ at u
    held_at none n u p = cc
    held_at (at w) n u p = let inner : w ≡ u = cc in ap at inner

    pub held_first : (u : Point) → x.start ≡ Some u → FirstPoint tie tie_good t.floors t.objective rules u
    held_first u p =
        at_first tie tie_good t.floors t.objective rules u (held_at start (restarts tie t.floors rules) u (sym start-is ∙ p))

    -- of the allowed pairs the one to take, in document 01's words
    pub held-least : (u : Point) → x.start ≡ Some u → (w : Point) → Feasible (system t.floors rules) w → NoLater u w
    held-least u p w f = first_in_words u w ((held_first u p).first w f)

  -- beyond the chain: the whole chain, where an unlimited plan prints the same pair
  module _ (beyond : length (rules_of es) ≤ k) where
    pub whole-seen : v ≡ Ok (start_view t.floors (rules_of es))
    whole-seen = accepted-seen ∙ ap (λ (l : List Constraint). Ok (start_view t.floors l)) (take_all k (rules_of es) beyond)

    pub unlimited-seen : (a : Answer) →
        Answers L s a →
        (p : Plan) →
        a ≡ Ok p →
        (u : Point) (d : Ray) →
        p.outcome ≡ outcome.Unbounded u d →
        (x : StartView) →
        v ≡ Ok x →
        x.start ≡ Some u
    unlimited-seen a promise p f u d q x r =
        let both : ◌≡◌ {A = Result StartView Refusal} (Ok x) (Ok (start_view t.floors (rules_of es))) = sym r ∙ whole-seen in
        let same : x ≡ start_view t.floors (rules_of es) = cc in
        ap (λ (y : StartView). y.start) same
        ∙ ap (λ (y : Start). (viewed y (restarts tie t.floors (rules_of es))).start)
        (unbounded_start tie tie_good t.floors t.objective (rules_of es) u d
        (sym (planned L s a promise t es e p f).outcome_defined ∙ q))
