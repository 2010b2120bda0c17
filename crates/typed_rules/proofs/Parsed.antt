-- What was parsed, from its value: a value tells whether there is a tree, and the tree's value.
use mathlib.Core.Path.{◌≡◌, refl, sym}
use mathlib.Core.List.{List}
use Prim.Native.Nat.{ℕ}
use native.Mathlib.Omega.{arith}
use Rattle.forms.specs.Value.{Value}
use Rattle.language.specs.Parser.{Parsed, fail, got}
use Rattle.typed_rules.specs.Promises.{valued}

clash : {A B : Type 0} {a : A} {r : List ℕ} → ◌≡◌ {A = Parsed A} fail (got a r) → B
clash e = absurd (let z : ◌≡◌ {A = ℕ} 0 1 = cc in omega arith)

pub inv_got : {A : Type 0} (v : A → Value) (p : Parsed A) {w : Value} {r : List ℕ} →
    valued v p ≡ got w r →
    (a : A) × (p ≡ got a r) × (v a ≡ w)
inv_got v fail e = clash e
inv_got v (got a q) e = (a, cc, cc)

pub inv_fail : {A : Type 0} (v : A → Value) (p : Parsed A) → valued v p ≡ fail → p ≡ fail
inv_fail v fail e = refl
inv_fail v (got a q) e = clash (sym e)
