-- Points that were put into a run of numbers, read off it again: what a caller of `corners` finds in its run.
use mathlib.Core.Path.{◌≡◌, refl, ◌∙◌, ap, ap₂}
use mathlib.Core.List.{List, [], ◌∷◌, map}
use Prim.Native.Nat.{ℕ, suc, ◌+◌, ◌*◌, ◌≤◌, ◌<◌}
use native.Mathlib.Omega.{arith}
use lib.ListN.{length, get_or}
use lib.IntN.{ℤ, pos}
use Rattle.lp.specs.declared.Constraint.{Constraint}
use Rattle.lp.specs.declared.Floors.{Floors}
use Rattle.lp.specs.declared.Point.{Point}
use Rattle.lp.specs.Program.{constraint, point}
use Rattle.engine.proofs.Laid.{put_same, put_other}
use Rattle.region.specs.Listing.{put_point, put_points, corners_of}
use Rattle.region.proofs.Listings.{put-length}
use Rattle.region.proofs.Theorems.{places, listed-at-most}

abbrev pub read_point : List ℤ → ℕ → Point
read_point l k = point (get_or l (3 * k) (pos 0)) (get_or l (3 * k + 1) (pos 0)) (get_or l (3 * k + 2) (pos 0))

-- ---- one point

read_same : (l : List ℤ) (k : ℕ) (v : Point) → 3 * k + 2 < length l → read_point (put_point l k v) k ≡ v
read_same l k v room = ap (λ (c : Constraint). point c.a c.b c.c) (put_same l k (constraint v.x v.y v.d) room)

read-other : (l : List ℤ) (k : ℕ) (v : Point) (j : ℕ) → (j ≡ k → ⊥) → read_point (put_point l k v) j ≡ read_point l j
read-other l k v j other =
    ap (λ (c : Constraint). point c.a c.b c.c) (put_other l k (constraint v.x v.y v.d) j other)

-- ---- all of them

read-before : (vs : List Point) (l : List ℤ) (k j : ℕ) → j < k → read_point (put_points l k vs) j ≡ read_point l j
read-before [] l k j b = refl
read-before (v ∷ vs) l k j b =
    read-before vs (put_point l k v) (suc k) j (omega arith) ∙ read-other l k v j (λ e. omega arith)

pub points-read :
    (vs : List Point) (l : List ℤ) (k : ℕ) →
    3 * (k + length vs) ≤ length l →
    map (read_point (put_points l k vs)) (places k (length vs)) ≡ vs
points-read [] l k room = refl
points-read (v ∷ vs) l k room =
    ap₂ (λ (w : Point) (ws : List Point). w ∷ ws)
    (read-before vs (put_point l k v) (suc k) k (omega arith) ∙ read_same l k v (omega arith))
    (points-read vs (put_point l k v) (suc k) (omega (arith, put-length l k v)))

-- the corners that were listed
pub corners-read :
    (f : Floors) (e : List ℤ) (order : List ℕ) (out : List ℤ) →
    3 * (length order + 3) ≤ length out →
    map (read_point (put_points out 0 (corners_of f e order))) (places 0 (length (corners_of f e order))) ≡ corners_of f e order
corners-read f e order out room = points-read (corners_of f e order) out 0 (omega (arith, listed-at-most f e order))
