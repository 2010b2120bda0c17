-- Plans across the versions of the format: two accepted books with the same terms and the same rules in the same order get the same plan
-- but for the witness, whose entries name records of their own book; and so do a book of either version and its repacked form.
use mathlib.Core.Path.{◌≡◌, refl, sym, ◌∙◌, ap, subst}
use mathlib.Core.List.{List, [], ◌∷◌, map}
use Prim.Native.Nat.{ℕ}
use Rattle.lp.specs.declared.Constraint.{Constraint}
use Rattle.lp.specs.declared.Terms.{Terms}
use Rattle.records.specs.declared.Version.{Version}
use Rattle.records.specs.Layout.{Layout, layout_of, v2}
use Rattle.records.specs.Number.{Bytes}
use Rattle.records.specs.Planned.{planned_rule}
use Rattle.book.specs.Reading.{Entry, read_of, rules_of, records_of}
use Rattle.repacker.specs.Repacking.{rule_in, packed, repack_of, ReadAlike}
use Rattle.repacker.proofs.RepackLaws.{carried, repacked_alike}
use Rattle.std.proofs.Common.{Ok}
use Rattle.answers.specs.Answer.{Answer}
use Rattle.answers.specs.declared.Plan.{Plan}
use Rattle.plans.specs.Planning.{PlannedAs}
use Rattle.planner.specs.Planning.{Answers}
use Rattle.planner.proofs.Demands.{accepted-planned}

-- two plans with the same outcome, pair and direction, the same place, moves and open
pub record SamePlan (p p' : Plan) : Type 0 where
  pub outcome-same : p.outcome ≡ p'.outcome
  pub moves-same : p.moves ≡ p'.moves
  pub open_same : p.opened ≡ p'.opened
  pub place_same : p.place ≡ p'.place

-- both books are planned, and alike
pub record PlannedAlike (a a' : Answer) : Type 0 where
  pub plan : Plan
  pub plan' : Plan
  pub one : a ≡ Ok plan
  pub two : a' ≡ Ok plan'
  pub same : SamePlan plan plan'

-- the rules as they are planned follow from the rules as they stand
rules-planned : (es : List Entry) → rules_of es ≡ map planned_rule (map rule_in es)
rules-planned [] = refl
rules-planned (e ∷ es) = ap (λ l. planned_rule e.rule ∷ l) (rules-planned es)

alike_rules : (es fs : List Entry) → map rule_in es ≡ map rule_in fs → rules_of es ≡ rules_of fs
alike_rules es fs e = rules-planned es ∙ ap (map planned_rule) e ∙ sym (rules-planned fs)

-- what defines a plan but its witness is the terms and the rules
same-plan : (t : Terms) (names names' : List ℕ) (rules rules' : List Constraint) (p p' : Plan) →
    rules ≡ rules' →
    PlannedAs t names rules p →
    PlannedAs t names' rules' p' →
    SamePlan p p'
same-plan t names names' rules rules' p p' e h h' =
    let k = subst (λ (l : List Constraint). PlannedAs t names l p) e h in
    record {
      outcome-same = k.outcome_defined ∙ sym h'.outcome_defined;
      moves-same = k.moves_defined ∙ sym h'.moves_defined;
      open_same = k.open_defined ∙ sym h'.open_defined;
      place_same = k.place_defined ∙ sym h'.place_defined;
    }

-- books that read alike, whatever their layouts and wherever their records lie, are planned alike
pub alike_planned : (L L' : Layout) (s s' : List ℕ) (a a' : Answer) →
    Answers L s a →
    Answers L' s' a' →
    ReadAlike (read_of L s) (read_of L' s') →
    PlannedAlike a a'
alike_planned L L' s s' a a' promise promise' r =
    let x = accepted-planned L s a promise r.terms r.first r.one in
    let y = accepted-planned L' s' a' promise' r.terms r.second r.two in
    record {
      plan = x.0;
      plan' = y.0;
      one = x.1;
      two = y.1;
      same =
          same-plan r.terms (records_of r.first) (records_of r.second) (rules_of r.first) (rules_of r.second) x.0 y.0
          (alike_rules r.first r.second r.rules) x.2 y.2;
    }

-- a book of either version and its repacked form, which is of version 2, get the same outcome, pair, direction, place, moves and open
pub repacked-planned : (v : Version) (s : List ℕ) →
    Bytes s →
    (room : ℕ) (bs : List ℕ) →
    repack_of (layout_of v) s room ≡ packed bs →
    (a a' : Answer) →
    Answers (layout_of v) s a →
    Answers v2 bs a' →
    PlannedAlike a a'
repacked-planned v s b room bs e a a' promise promise' =
    alike_planned (layout_of v) v2 s bs a a' promise promise' (repacked_alike (layout_of v) (carried v) s b room bs e)
