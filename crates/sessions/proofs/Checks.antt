-- What turns an objective back, as the code tests it; and a rule that has none of the causes 8, 9 and 10 is lawful.
use mathlib.Core.Path.{◌≡◌, refl, sym, ◌∙◌, ap, subst}
use mathlib.Core.Bool.{Bool, true, false, not, ◌||◌, ◌&&◌}
use mathlib.Core.Logic.{◌⊎◌, inl, inr}
use Prim.Native.Nat.{ℕ, suc, ◌≤◌, ◌<◌}
use native.Mathlib.Omega.{arith}
use borrow.Author.Tests.{eqb-true, ltb-false}
use lib.Dec.{T, eqb}
use lib.IntN.{ℤ, pos, negsuc, nat_abs}
use lib.Signed.{lt_z}
use mir.Syntax.{w16}
use mir.Val.{SFits, to_z, of_z}
use mir.Facts.{to_z-of_z}
use Rattle.records.specs.declared.Rule.{Rule}
use Rattle.records.specs.Record.{is_least, is_beyond, bad_kind, bad_slope, bad_bound, number_of}
use Rattle.records.proofs.Checks as records
use Rattle.sessions.specs.Sessions.{cause_of, Lawful}

-- ---- one number

pub least-read : (z : ℤ) → SFits w16 z → {t : Bool} → t ≡ is_least (to_z w16 (of_z w16 z)) → t ≡ is_least z
least-read z f e = e ∙ ap is_least (to_z-of_z {w = w16} f)

-- sixteen bits other than −32,768
pub within-top : (z : ℤ) → SFits w16 z → is_least z ≡ false → nat_abs z ≤ 32767
within-top (pos n) f e = let h = f.sfits in omega arith
within-top (negsuc n) f e = omega (arith, ltb-false 32766 n e)

-- ---- two

either-false : (s t : Bool) → (s || t) ≡ false → (s ≡ false) × (t ≡ false)
either-false true t e = absurd (subst T e tt)
either-false false t e = (refl, e)

-- ---- a rule

kind-of : (k : ℕ) → not ((eqb k 1 || eqb k 2) && true) ≡ false → (k ≡ 1) ⊎ (k ≡ 2)
kind-of k = go (eqb k 1) (eqb k 2) refl refl
  where
    go : (s t : Bool) → eqb k 1 ≡ s → eqb k 2 ≡ t → not ((s || t) && true) ≡ false → (k ≡ 1) ⊎ (k ≡ 2)
    go true t e f h = inl (eqb-true k 1 e)
    go false true e f h = inr (eqb-true k 2 f)
    go false false e f h = absurd (subst T h tt)

bound_of : (z : ℤ) → is_beyond z ≡ false → nat_abs z ≤ 1000000000
bound_of (pos n) e = omega (arith, ltb-false 1000000000 n (either-false (lt_z (pos n) (negsuc 999999999)) (lt_z (pos 1000000000) (pos n)) e).1)
bound_of (negsuc n) e =
    omega (arith, ltb-false 999999999 n (either-false (lt_z (negsuc n) (negsuc 999999999)) (lt_z (pos 1000000000) (negsuc n)) e).0)

pub no_cause : (r : Rule) → SFits w16 r.a → SFits w16 r.b → r.label < 65536 → cause_of r ≡ 0 → Lawful r
no_cause r fa fb fl none = go (bad_kind true r) refl (bad_slope r) refl (bad_bound r) refl
  where
    never : {n : ℕ} → cause_of r ≡ suc n → Lawful r
    never e = absurd (let w : ⊥ = omega (arith, e, none) in w)

    go : (k : Bool) → bad_kind true r ≡ k → (s : Bool) → bad_slope r ≡ s → (b : Bool) → bad_bound r ≡ b → Lawful r
    go true k s es b eb = never (ap number_of (sym (records.kind-first true r 0 k)))
    go false k true es b eb = never (ap number_of (sym (records.slope-next true r 0 k es)))
    go false k false es true eb = never (ap number_of (sym (records.bound-last true r 0 k es eb)))
    go false k false es false eb =
        let slopes = either-false (is_least r.a) (is_least r.b) es in
        record {
          kind = kind-of r.kind k;
          a = within-top r.a fa slopes.0;
          b = within-top r.b fb slopes.1;
          c = bound_of r.c eb;
          label = fl;
        }
