-- An answer and a refusal differ, and each holds what it was made of.
use mathlib.Core.Path.{◌≡◌, ap, subst}
use lib.Dec.{T}
use Rattle.std.specs.Prelude.{Result, Ok, Err}
use Rattle.std.specs.Result.{is_ok}

pub ok-err : {A E : Type 0} (x : A) (d : E) → Ok x ≡ Err d → ⊥
ok-err x d e = subst T (ap is_ok e) tt

answer_in : {A E : Type 0} → A → Result A E → A
answer_in x (Ok y) = y
answer_in x (Err d) = x

error_in : {A E : Type 0} → E → Result A E → E
error_in d (Ok y) = d
error_in d (Err f) = f

pub same_Ok : {A E : Type 0} (x y : A) → ◌≡◌ {A = Result A E} (Ok x) (Ok y) → x ≡ y
unfolding answer_in
same_Ok x y e = ap (answer_in x) e

pub same_Err : {A E : Type 0} (d f : E) → ◌≡◌ {A = Result A E} (Err d) (Err f) → d ≡ f
unfolding error_in
same_Err d f e = ap (error_in d) e
