-- The end of a new edge is what the walk's pass finds: the laws of the boundary, as the code goes through them. Where the end is a point,
-- the start point and the optimum move there.
use Rattle.std.specs.Prelude.{Ok}
use mathlib.Core.Path.{◌≡◌, refl, sym, ◌∙◌, ap}
use mathlib.Core.List.{List}
use mathlib.Core.Bool.{Bool, true, false}
use Prim.Native.Nat.{ℕ}
use lib.IntN.{ℤ, pos}
use lib.Signed.{lt_z}
use Rattle.lp.specs.declared.Constraint.{Constraint}
use Rattle.lp.specs.declared.Functional.{Functional}
use Rattle.lp.specs.declared.Tie.{Tie}
use Rattle.lp.specs.declared.Point.{Point}
use Rattle.lp.specs.declared.Ray.{Ray}
use Rattle.lp.specs.Outcome.{above, meet, reduce, tie_order}
use Rattle.lp.specs.Range.{SmallConstraint}
use Rattle.model.specs.Scan.{direction}
use Rattle.model.specs.Step.{tightest_point, restart}
use Rattle.boundary.specs.Quick.{nowhere, at, proper, end_of, restart_at, point_at}
use Rattle.boundary.proofs.Ends.{end-tightest, end-restarts}
use Rattle.engine.specs.declared.between.Gap.{Gap}
use Rattle.engine.specs.Entries.{entries}
use Rattle.engine.specs.Carrying.{end_point, Ends, Between}

-- as its side and direction were worked out
end_is :
    (fs : List Functional) (h : Constraint) (g : Gap) {d : Ray} {up : Bool} {p : Point} →
    d ≡ direction h →
    up ≡ above fs d →
    p ≡ end_point up h g →
    end_of fs h g.before g.behind ≡ proper p
end_is fs h g {d} {up} ed eu ep =
    ap (λ b. elim b [ true ↦ proper (meet g.before h) | false ↦ proper (meet h g.behind) ]) (sym (eu ∙ ap (above fs) ed))
    ∙ go up
    ∙ ap proper (sym ep)
  where
    go : (b : Bool) → elim b [ true ↦ proper (meet g.before h) | false ↦ proper (meet h g.behind) ] ≡ proper (end_point b h g)
    go true = refl
    go false = refl

pub between_ends : {l : List ℤ} {n : ℕ} {h : Constraint} {g : Gap} → SmallConstraint h → Between l n h g → Ends h g
between_ends s b = record { h-small = s; before-small = b.before-small; behind-small = b.behind-small }

module _ {l : List ℤ} {n : ℕ} {h : Constraint} {g : Gap} (b : Between l n h g) (fs : List Functional) {d : Ray} {up : Bool} {p v : Point}
    (ed : d ≡ direction h) (eu : up ≡ above fs d) (ep : p ≡ end_point up h g) (finite : lt_z (pos 0) p.d ≡ true)
    (ev : v ≡ reduce p) where
  end-at : end_of fs h g.before g.behind ≡ at v
  end-at =
      end_is fs h g ed eu ep
      ∙ ap (λ t. elim t [ true ↦ at (reduce p) | false ↦ nowhere ]) finite
      ∙ ap at (sym ev)

  pub moved-there : v ≡ tightest_point fs (entries l 0 n) h
  moved-there =
      sym (ap (point_at fs (entries l 0 n) h) end-at)
      ∙ end-tightest (entries l 0 n) h b.size g.before g.behind b.before b.behind fs

  pub restarted-there : (t : Tie) → fs ≡ tie_order t → Ok v ≡ restart t (entries l 0 n) n h
  restarted-there t ef =
      sym (ap (restart_at t (entries l 0 n) n h) end-at)
      ∙ ap (λ fs. restart_at t (entries l 0 n) n h (end_of fs h g.before g.behind)) ef
      ∙ end-restarts (entries l 0 n) h b.size g.before g.behind b.before b.behind t n
