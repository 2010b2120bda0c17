-- `joining::run::join_in` meets its contract: the refusal of a book, or the plan of the single list (`Joins`).
use mathlib.Core.Path.{sym, ap, subst, ◌∙◌}
use Prim.Native.Nat.{◌+◌}
use Rattle.lp.specs.declared.Terms.{Terms}
use Rattle.engine.specs.Solving.{solved_of}
use Rattle.joining.specs.Running.{ReadsBoth}
use Rattle.joining.proofs.Joins.{renames, always_planned, joined-planned}
use Rattle.joining.proofs.run.join_in.Goals as goal

pub rename-requires : goal.rename-requires
rename-requires c =
    let s = c.args.site.now in
    let u = c.args.tenant.now in
    let read = c.read_both in
    renames s u c.in_ok-heads.heads read.new.names read.new.entries
    (subst (λ x. ReadsBoth s u x read.new.names read.new.entries) c.in_ok-heads.was read.ensures)

pub unwrap-solution-requires : goal.unwrap-solution-requires
unwrap-solution-requires c =
    let r = c.in_ok-heads.heads in
    let read = c.read_both in
    always_planned c.args.site.now c.args.tenant.now r read.new.names read.new.entries
    (subst (λ x. ReadsBoth c.args.site.now c.args.tenant.now x read.new.names read.new.entries) c.in_ok-heads.was read.ensures)
    (c.solve.ensures.answer
    ∙ ap (λ (t : Terms). solved_of t read.new.entries (r.site.n + r.tenant.n)) c.joined_terms-terms.ensures)

pub returns : goal.returns
returns c =
    let r = c.in_ok-heads.heads in
    let read = c.read_both in
    joined-planned c.args.site.now c.args.tenant.now r read.new.names read.new.entries
    (subst (λ x. ReadsBoth c.args.site.now c.args.tenant.now x read.new.names read.new.entries) c.in_ok-heads.was read.ensures)
    c.rename.new.names c.rename.ensures
    (sym c.unwrap-solution.ensures
    ∙ c.solve.ensures.answer
    ∙ ap (λ (t : Terms). solved_of t read.new.entries (r.site.n + r.tenant.n)) c.joined_terms-terms.ensures)
    c.plan_of.ensures
