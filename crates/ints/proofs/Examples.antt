-- What the kit can do, as proved examples: an identity of degree 4 in 8 variables, and the two facts of linear programming that
-- everything above rests on.
use mathlib.Core.Path.{◌≡◌, refl}
use lib.IntN.{ℤ, pos, ◌+ℤ◌, ◌-ℤ◌, ◌*ℤ◌}
use Rattle.ints.specs.Order.{◌≤ᶻ◌, ◌<ᶻ◌}
use Rattle.ints.proofs.Ring.{ring, ◌⊕◌, ◌⊖◌, ◌⊗◌, con, ◌≐◌}
use Rattle.ints.proofs.Order.{nn_add, nn_mul, pos_nn, sub_nn, sub-pos, pos-mul, nn_add_pos}
use Rattle.ints.proofs.Combine.{by_le, clash, nn_equal, signs, ◌≼◌by◌}

-- Euler's four squares
pub four-squares :
    (a b c d e f g h : ℤ) →
    (a *ℤ a +ℤ b *ℤ b +ℤ c *ℤ c +ℤ d *ℤ d) *ℤ (e *ℤ e +ℤ f *ℤ f +ℤ g *ℤ g +ℤ h *ℤ h)
    ≡ (a *ℤ e -ℤ b *ℤ f -ℤ c *ℤ g -ℤ d *ℤ h) *ℤ (a *ℤ e -ℤ b *ℤ f -ℤ c *ℤ g -ℤ d *ℤ h)
    +ℤ (a *ℤ f +ℤ b *ℤ e +ℤ c *ℤ h -ℤ d *ℤ g) *ℤ (a *ℤ f +ℤ b *ℤ e +ℤ c *ℤ h -ℤ d *ℤ g)
    +ℤ (a *ℤ g -ℤ b *ℤ h +ℤ c *ℤ e +ℤ d *ℤ f) *ℤ (a *ℤ g -ℤ b *ℤ h +ℤ c *ℤ e +ℤ d *ℤ f)
    +ℤ (a *ℤ h +ℤ b *ℤ g -ℤ c *ℤ f +ℤ d *ℤ e) *ℤ (a *ℤ h +ℤ b *ℤ g -ℤ c *ℤ f +ℤ d *ℤ e)
four-squares =
    ring 8 (λ a b c d e f g h. (a ⊗ a ⊕ b ⊗ b ⊕ c ⊗ c ⊕ d ⊗ d) ⊗ (e ⊗ e ⊕ f ⊗ f ⊕ g ⊗ g ⊕ h ⊗ h)
    ≐ (a ⊗ e ⊖ b ⊗ f ⊖ c ⊗ g ⊖ d ⊗ h) ⊗ (a ⊗ e ⊖ b ⊗ f ⊖ c ⊗ g ⊖ d ⊗ h)
    ⊕ (a ⊗ f ⊕ b ⊗ e ⊕ c ⊗ h ⊖ d ⊗ g) ⊗ (a ⊗ f ⊕ b ⊗ e ⊕ c ⊗ h ⊖ d ⊗ g)
    ⊕ (a ⊗ g ⊖ b ⊗ h ⊕ c ⊗ e ⊕ d ⊗ f) ⊗ (a ⊗ g ⊖ b ⊗ h ⊕ c ⊗ e ⊕ d ⊗ f)
    ⊕ (a ⊗ h ⊕ b ⊗ g ⊖ c ⊗ f ⊕ d ⊗ e) ⊗ (a ⊗ h ⊕ b ⊗ g ⊖ c ⊗ f ⊕ d ⊗ e)) refl

-- a constraint a·x + b·y ≤ c kept by two points is kept by every combination of them with weights that are not negative
pub combination_kept :
    (a b c x y d x' y' d' s t : ℤ) →
    a *ℤ x +ℤ b *ℤ y ≤ᶻ c *ℤ d →
    a *ℤ x' +ℤ b *ℤ y' ≤ᶻ c *ℤ d' →
    pos 0 ≤ᶻ s →
    pos 0 ≤ᶻ t →
    a *ℤ (s *ℤ x +ℤ t *ℤ x') +ℤ b *ℤ (s *ℤ y +ℤ t *ℤ y') ≤ᶻ c *ℤ (s *ℤ d +ℤ t *ℤ d')
combination_kept a b c x y d x' y' d' s t h h' hs ht =
    by_le 11
    (λ a b c x y d x' y' d' s t. a ⊗ (s ⊗ x ⊕ t ⊗ x') ⊕ b ⊗ (s ⊗ y ⊕ t ⊗ y')
    ≼ c ⊗ (s ⊗ d ⊕ t ⊗ d') by s ⊗ (c ⊗ d ⊖ (a ⊗ x ⊕ b ⊗ y)) ⊕ t ⊗ (c ⊗ d' ⊖ (a ⊗ x' ⊕ b ⊗ y')))
    refl a b c x y d x' y' d' s t (search signs)

-- three constraints whose weighted sums of a and b are 0 and of c is negative exclude every point, whatever its size
pub three_exclude :
    (a b c a' b' c' a'' b'' c'' u v w x y d : ℤ) →
    pos 0 <ᶻ u →
    pos 0 <ᶻ v →
    pos 0 <ᶻ w →
    u *ℤ a +ℤ v *ℤ a' +ℤ w *ℤ a'' ≡ pos 0 →
    u *ℤ b +ℤ v *ℤ b' +ℤ w *ℤ b'' ≡ pos 0 →
    u *ℤ c +ℤ v *ℤ c' +ℤ w *ℤ c'' <ᶻ pos 0 →
    pos 0 <ᶻ d →
    a *ℤ x +ℤ b *ℤ y ≤ᶻ c *ℤ d →
    a' *ℤ x +ℤ b' *ℤ y ≤ᶻ c' *ℤ d →
    a'' *ℤ x +ℤ b'' *ℤ y ≤ᶻ c'' *ℤ d →
    ⊥
three_exclude a b c a' b' c' a'' b'' c'' u v w x y d hu hv hw ea eb ec hd h h' h'' =
    clash 15
    (λ a b c a' b' c' a'' b'' c'' u v w x y d. u ⊗ (c ⊗ d ⊖ (a ⊗ x ⊕ b ⊗ y)) ⊕ v ⊗ (c' ⊗ d ⊖ (a' ⊗ x ⊕ b' ⊗ y))
    ⊕ w ⊗ (c'' ⊗ d ⊖ (a'' ⊗ x ⊕ b'' ⊗ y)) ⊕ x ⊗ (u ⊗ a ⊕ v ⊗ a' ⊕ w ⊗ a'' ⊖ con (pos 0)) ⊕ y ⊗ (u ⊗ b ⊕ v ⊗ b' ⊕ w ⊗ b'' ⊖ con (pos 0))
    ⊕ (con (pos 0) ⊖ (u ⊗ c ⊕ v ⊗ c' ⊕ w ⊗ c'')) ⊗ d)
    refl a b c a' b' c' a'' b'' c'' u v w x y d
    (nn_add_pos (nn_add (nn_add
    (nn_add (nn_add (nn_mul (pos_nn hu) (sub_nn h)) (nn_mul (pos_nn hv) (sub_nn h'))) (nn_mul (pos_nn hw) (sub_nn h''))) (nn_equal x ea))
    (nn_equal y eb)) (pos-mul (sub-pos ec) hd))
