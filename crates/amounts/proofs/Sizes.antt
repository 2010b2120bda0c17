-- An i64 that a call takes or returns is read back from its bits, `read z`, which is z where z fits. What an exact distance asks of a
-- rule and a point is crate exact's, and is passed on from here.
use mathlib.Core.Path.{◌≡◌, ◌∙◌}
use Prim.Native.Nat.{ℕ, ◌^◌, ◌<◌}
use lib.Dec.{T, ltb}
use lib.IntN.{ℤ, ◌+ℤ◌, ◌-ℤ◌, ◌*ℤ◌}
use lib.Signed.{mag}
use mir.Syntax.{w64}
use mir.Facts.{to_z-of_z}
use Rattle.ints.specs.Within.{Within}
use Rattle.ints.proofs.Bits.{read}
use Rattle.ints.proofs.Machine.{within-fits, within-read}
use Rattle.fraction.proofs.Quotients.{unread}
use Rattle.amounts.specs.Sizes.{Distance}
pub use Rattle.exact.proofs.Sizes.{kept-distance, DistanceFits, distance-fits}

pub within-unread : {n : ℕ} {z : ℤ} → Within n z → T (ltb n (2 ^ 63)) → read z ≡ z
within-unread h t = to_z-of_z {w = w64} (within-fits h t)

module _ {a x b y c d : ℤ} (f : Distance a x b y c d) where
  pub distance_args : Distance (read a) (read x) (read b) (read y) (read c) (read d)
  distance_args =
      record {
        a_small = within-read f.a_small tt;
        x-small = within-read f.x-small tt;
        b-small = within-read f.b-small tt;
        y-small = within-read f.y-small tt;
        c-small = within-read f.c-small tt;
        d_small = within-read f.d_small tt;
      }

  pub distance_read :
      {z : ℤ} →
      mag z < 2 ^ 63 →
      z ≡ read c *ℤ read d -ℤ (read a *ℤ read x +ℤ read b *ℤ read y) →
      read z ≡ c *ℤ d -ℤ (a *ℤ x +ℤ b *ℤ y)
  distance_read h e =
      unread h
      ∙ e
      ∙ λ i. within-unread f.c-small tt i *ℤ within-unread f.d_small tt i
      -ℤ (within-unread f.a_small tt i *ℤ within-unread f.x-small tt i
      +ℤ within-unread f.b-small tt i *ℤ within-unread f.y-small tt i)
