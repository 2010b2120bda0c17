-- The parts of a step, as the code goes through them: each law takes what the calls on one way returned, and says that the whole is the
-- model's.
use Rattle.std.specs.Prelude.{Option, None, Some, Result, Ok, Err}
use mathlib.Core.Path.{◌≡◌, refl, sym, ◌∙◌, ap, ap₂, subst}
use mathlib.Core.List.{List, [], ◌∷◌}
use mathlib.Core.Bool.{Bool, true, false, not, ◌&&◌}
use Prim.Native.Nat.{ℕ, ◌+◌, ◌-◌, ◌^◌, ◌<◌}
use lib.IntN.{ℤ, pos}
use lib.Signed.{lt_z, mag}
use Rattle.ints.proofs.Bits.{read}
use Rattle.fraction.proofs.Quotients.{unread}
use Rattle.lp.specs.declared.Constraint.{Constraint}
use Rattle.lp.specs.declared.Functional.{Functional}
use Rattle.lp.specs.declared.Tie.{Tie}
use Rattle.lp.specs.declared.Point.{Point}
use Rattle.lp.specs.declared.Ray.{Ray}
use Rattle.lp.specs.declared.Certificate.{Certificate}
use Rattle.lp.specs.Program.{along}
use Rattle.lp.specs.Outcome.{above, keeps, tie_order, gain_order}
use Rattle.lp.specs.Certificate.{certificate, is_zero}
use Rattle.lp.specs.Prefixes.{one_if}
use Rattle.model.specs.declared.Met.{Met}
use Rattle.model.specs.declared.State.{State}
use Rattle.model.specs.declared.State.TheVariants.{Ended, Going}
use Rattle.model.specs.declared.Walk.{Walk}
use Rattle.model.specs.Scan.{facing, direction, tightest}
use Rattle.model.specs.Step.{alone, resettled, restart, narrow, improved, breaks, going, settled, recounted, stepped, step}
use Rattle.model.specs.Bounds.{SmallPoint, SmallCone, SmallBest, SmallState}
use Rattle.engine.specs.Start.{kept_or_restarted}

-- ---- the order of points

module _ (f : Functional) (fs : List Functional) (d : Ray) where
  pub above-gains : lt_z (pos 0) (along f d) ≡ true → true ≡ above (f ∷ fs) d
  above-gains e = rw (e, above)

  module _ (e : lt_z (pos 0) (along f d) ≡ false) where
    pub above-loses : lt_z (along f d) (pos 0) ≡ true → false ≡ above (f ∷ fs) d
    above-loses k = rw (e, k, above)

    pub above-level : lt_z (along f d) (pos 0) ≡ false → above fs d ≡ above (f ∷ fs) d
    above-level k = rw (e, k, above)

pub above-last : (f : Functional) (d : Ray) → lt_z (pos 0) (along f d) ≡ above (f ∷ []) d
above-last f d = go (lt_z (pos 0) (along f d)) (lt_z (along f d) (pos 0))
  where
    go : (t u : Bool) → t ≡ elim t [ true ↦ true | false ↦ elim u [ true ↦ false | false ↦ false ] ]
    go true u = refl
    go false true = refl
    go false false = refl

-- ---- the parts of what is within the bounds

pub best-point : {b : Option Point} → SmallBest b → {v : Point} → b ≡ Some v → SmallPoint v
best-point s e = subst SmallBest e s

-- a point whose numbers were read one by one
pub same_point :
    (v : Point) →
    mag v.x < 2 ^ 63 →
    mag v.y < 2 ^ 63 →
    mag v.d < 2 ^ 63 →
    record { x = read v.x; y = read v.y; d = read v.d } ≡ v
same_point v hx hy hd i = record { x = unread {z = v.x} hx i; y = unread {z = v.y} hy i; d = unread {z = v.d} hd i }

-- whether the best pair keeps a constraint, from whether it breaks it
kept_of : (k : Bool) (t : Bool) → t ≡ elim k [ true ↦ false | false ↦ true ] → k ≡ not t
kept_of true t e = ap not (sym e)
kept_of false t e = ap not (sym e)

pub asked-keeps : (h : Constraint) {b : Option Point} {t : Bool} → t ≡ breaks h b → {v : Point} → b ≡ Some v → keeps h v ≡ not t
asked-keeps h {b} {t} a {v} e = kept_of (keeps h v) t (a ∙ ap (breaks h) e)

pub state_parts :
    {w : State} →
    SmallState w →
    {s : Point} {cone : Option (Ray × Ray)} {b : Option Point} →
    w ≡ Going s cone b →
    SmallPoint s × SmallCone cone × SmallBest b
state_parts s e = subst SmallState e s

-- ---- the line that is walked

-- as its side and direction were worked out
pub faced :
    (fs : List Functional) (h : Constraint) {d : Ray} {side : Bool} {line : Constraint} →
    d ≡ direction h →
    side ≡ above fs d →
    line ≡ facing side h →
    line ≡ facing (above fs (direction h)) h
faced fs h ed es el = el ∙ ap (λ s. facing s h) (es ∙ ap (above fs) ed)

-- and what is found on it
pub faced-tightest :
    (fs : List Functional) (S : List Constraint) (h : Constraint) {d : Ray} {side : Bool} {line : Constraint} {f : Option Met} →
    d ≡ direction h →
    side ≡ above fs d →
    line ≡ facing side h →
    f ≡ tightest line 0 S None →
    f ≡ tightest (facing (above fs (direction h)) h) 0 S None
faced-tightest fs S h ed es el ef = ef ∙ ap (λ l. tightest l 0 S None) (faced fs h ed es el)

-- the start point's new place, from what the calls on the way to it returned
pub restarted :
    (t : Tie) (S : List Constraint) (n : ℕ) (h : Constraint) {d : Ray} {side : Bool} {line : Constraint} {f : Option Met}
    {r : Result Point Certificate} →
    (is_zero h.a && is_zero h.b) ≡ false →
    d ≡ direction h →
    side ≡ above (tie_order t) d →
    line ≡ facing side h →
    f ≡ tightest line 0 S None →
    r ≡ resettled S side n h f →
    r ≡ restart t S n h
restarted t S n h {d} {side} z ed es el ef er =
    er
    ∙ ap₂ (λ s f. resettled S s n h f) (es ∙ ap (above (tie_order t)) ed) (faced-tightest (tie_order t) S h ed es el ef)
    ∙ sym (ap (λ z. elim z [
      | true ↦ Err (alone n)
      | false ↦ resettled S (above (tie_order t) (direction h)) n h
          (tightest (facing (above (tie_order t) (direction h)) h) 0 S None)
    ]) z)

pub certificate-same :
    (i j k : ℕ) {u v w u' v' w' : ℤ} →
    u ≡ u' →
    v ≡ v' →
    w ≡ w' →
    certificate i u j v k w ≡ certificate i u' j v' k w'
certificate-same i j k eu ev ew = λ t. certificate i (eu t) j (ev t) k (ew t)

-- ---- a step

module _ (t : Tie) (f : Functional) (S : List Constraint) (n : ℕ) (h : Constraint) (w : Walk) where
  -- a walk that has ended stays as it is
  pub step-ended : {p : ℕ} {c : Certificate} → w.state ≡ Ended p c → w ≡ step t f S n h w
  step-ended {p} {c} e = shown ∙ sym (ap (stepped t f S n h w.moves w.opened w.restarts) e)
    where
      shown : w ≡ record { state = Ended p c; moves = w.moves; opened = w.opened; restarts = w.restarts }
      shown = λ i. record { state = e i; moves = w.moves; opened = w.opened; restarts = w.restarts }

  module _ {s : Point} {cone : Option (Ray × Ray)} {b : Option Point} (e : w.state ≡ Going s cone b) {kept : Bool} (ek : kept ≡ keeps h s)
      {r : Result Point Certificate} (er : r ≡ kept_or_restarted t S n h s kept) {broken : Bool} (eb : broken ≡ breaks h b)
      {m : ℕ} (em : m ≡ w.moves + one_if broken)
      {k : ℕ} (ec : k ≡ w.restarts + one_if (not kept)) where
    moves-is : m ≡ w.moves + one_if (breaks h b)
    moves-is = em ∙ ap (λ k. w.moves + one_if k) eb

    restarts-is : k ≡ recounted w.restarts h s
    restarts-is = ec ∙ ap (λ u. w.restarts + one_if (not u)) ek

    settles :
        {q : Result Point Certificate} →
        r ≡ q →
        settled t f S n h cone b w.moves w.opened (recounted w.restarts h s) q ≡ step t f S n h w
    settles q =
        ap (settled t f S n h cone b w.moves w.opened (recounted w.restarts h s)) (sym q ∙ er
        ∙ ap (kept_or_restarted t S n h s) ek) ∙ sym (ap (stepped t f S n h w.moves w.opened w.restarts) e)

    pub step-moved :
        {p : Point} →
        r ≡ Ok p →
        {wedge : Option (Ray × Ray)} →
        wedge ≡ narrow h cone →
        {next : Option Point} →
        next ≡ improved (gain_order f t) f S h wedge b →
        {v : Walk} →
        v ≡ going p wedge next m w.opened k →
        v ≡ step t f S n h w
    step-moved {p} q ew en ev =
        ev
        ∙ (λ i. going p (ew i) ((en ∙ ap (λ c. improved (gain_order f t) f S h c b) ew) i) (moves-is i) w.opened (restarts-is i))
        ∙ settles q

    pub step_failed :
        {c : Certificate} →
        r ≡ Err c →
        ◌≡◌ {A = Walk} (record { state = Ended (n - 1) c; moves = m; opened = w.opened; restarts = k }) (step t f S n h w)
    step_failed {c} q =
        (λ i. record { state = Ended (n - 1) c; moves = moves-is i; opened = w.opened; restarts = restarts-is i }) ∙ settles q
