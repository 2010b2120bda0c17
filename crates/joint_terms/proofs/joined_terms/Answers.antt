-- `joint_terms::joined_terms` meets its contract: the tenant's objective, and of each floor the greater.
use mathlib.Core.Path.{◌∙◌}
use mir.Syntax.{w64}
use mir.Val.{SFits}
use borrow.Author.Rules.{rules}
use Rattle.joint_terms.proofs.Compared.{read, greatest-is, greater-read}
use Rattle.joint_terms.proofs.joined_terms.Goals as goal

pub returns : goal.returns
returns c =
    let f = c.args.site.floors in
    let g = c.args.tenant.floors in
    let fx : SFits w64 f.lx = search rules in
    let fy : SFits w64 f.ly = search rules in
    let gx : SFits w64 g.lx = search rules in
    let gy : SFits w64 g.ly = search rules in
    let x : SFits w64 c.max-lx.result = search rules in
    let y : SFits w64 c.max-ly.result = search rules in
    λ i. record {
      objective = c.args.tenant.objective;
      floors =
          record {
            lx = greater-read fx gx x (c.max-lx.ensures.value ∙ greatest-is (read f.lx) (read g.lx)) i;
            ly = greater-read fy gy y (c.max-ly.ensures.value ∙ greatest-is (read f.ly) (read g.ly)) i;
          };
    }
