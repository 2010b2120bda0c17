-- The table of witnesses with nothing spare holds, and a valid witness with a spare entry is not one of them: the definition asks for a
-- pair whichever entry is given up, the last one too.
use mathlib.Core.Path.{refl}
use mathlib.Core.List.{List, Memᴰ}
use native.Mathlib.Omega.{arith}
use lib.Dec.{T}
use lib.IntN.{ℤ, pos, negsuc}
use lib.Signed.{clash_ℤ}
use Rattle.ints.specs.Order.{◌≤ᶻ◌, ◌<ᶻ◌}
use Rattle.ints.proofs.Ring.{ring, con, ◌⊕◌, ◌⊖◌, ◌⊗◌, ◌≐◌}
use Rattle.ints.proofs.Order.{nn_add, nn_add_pos, le_of_eq}
use Rattle.lp.specs.declared.Point.{Point}
use Rattle.lp.specs.Program.{slack}
use Rattle.lp.specs.Outcome.{every}
use Rattle.lp.specs.Certificate.{entry_in, certifies, GivenUp, NothingSpare}
use Rattle.lp.specs.Minimal.{minimal, minimals, named, spared, with_spare}

pub minimals_hold : T (every minimal minimals)
minimals_hold = tt

pub spare-valid : T (certifies spared with_spare)
spare-valid = tt

-- x ≤ −1 and x ≥ 0 leave no pair
no_pair : (v : Point) →
    pos 0 <ᶻ v.d →
    pos 0 ≤ᶻ slack (entry_in spared 0) v →
    pos 0 ≤ᶻ slack (entry_in spared 2) v →
    ⊥
no_pair v proper floor rule =
    clash_ℤ (nn_add_pos (nn_add floor rule) proper)
    (le_of_eq (ring 3 (λ x y d. con (pos 0) ⊗ d ⊖ (con (negsuc 0) ⊗ x ⊕ con (pos 0) ⊗ y)
    ⊕ (con (negsuc 0) ⊗ d ⊖ (con (pos 1) ⊗ x ⊕ con (pos 0) ⊗ y)) ⊕ d ≐ con (pos 0)) refl v.x v.y v.d))

pub spare-found : NothingSpare (entry_in spared) with_spare → ⊥
spare-found lean =
    let rest : GivenUp (entry_in spared) with_spare (named 3 1) =
    lean (named 3 1) (Memᴰ.tail (Memᴰ.tail (Memᴰ.head refl))) in
    no_pair rest.pair rest.proper
    (rest.others-kept (named 0 1) (Memᴰ.head refl) (λ e. omega arith))
    (rest.others-kept (named 2 1) (Memᴰ.tail (Memᴰ.head refl)) (λ e. omega arith))
