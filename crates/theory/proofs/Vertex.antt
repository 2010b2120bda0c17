-- Vertices: meeting points of two entries in lowest terms, and that the enumeration of `lp` lists exactly these.
use mathlib.Core.Path.{◌≡◌, refl, sym, ap, subst}
use mathlib.Core.List.Memᴰ
use mathlib.Core.List.{List, [], ◌∷◌, ◌++◌, Memᴰ}
use mathlib.Core.Bool.{Bool, true, false, not}
use mathlib.Core.Logic.{◌⊎◌, inl, inr, ⊎_elim}
use lib.Dec.{T}
use lib.IntN.{pos}
use lib.Signed.{lt_z, lt_z_yes, lt_z_no, clash_ℤ}
use Rattle.ints.specs.Order.{◌≤ᶻ◌, ◌<ᶻ◌}
use Rattle.ints.proofs.Ring.{◌≐◌}
use Rattle.lp.specs.declared.Constraint.{Constraint}
use Rattle.lp.specs.declared.Point.{Point}
use Rattle.lp.specs.Outcome.{det, meet, reduce, meetings, vertices_of, vertices}
use Rattle.model.specs.Scan.{reversed, facing}
use Rattle.theory.proofs.Solver.{equal, C, detᵖ, meetᵖ}
use Rattle.theory.proofs.Line.{reversedᵖ}
use Rattle.theory.proofs.Reduction.{point_path, reduced-proper, reduced-lowest, LowestTerms}

pub record Vertex (S : List Constraint) (v : Point) : Type 0 where
  pub one : Constraint
  pub other : Constraint
  pub one-member : Memᴰ one S
  pub other-member : Memᴰ other S
  pub crosses : pos 0 <ᶻ det one other
  pub lowest : v ≡ reduce (meet one other)

pub vertex-proper : (S : List Constraint) (v : Point) → Vertex S v → pos 0 <ᶻ v.d
vertex-proper S v x = subst (λ z. pos 0 <ᶻ z.d) (sym x.lowest) (reduced-proper (meet x.one x.other) x.crosses)

pub vertex-lowest : (S : List Constraint) (v : Point) → Vertex S v → LowestTerms v
vertex-lowest S v x = subst LowestTerms (sym x.lowest) (reduced-lowest (meet x.one x.other) x.crosses)

pub vertex-grows :
    (S S' : List Constraint) →
    ((r : Constraint) → Memᴰ r S → Memᴰ r S') →
    (v : Point) →
    Vertex S v →
    Vertex S' v
vertex-grows S S' old v x =
    record {
      one = x.one;
      other = x.other;
      one-member = old x.one x.one-member;
      other-member = old x.other x.other-member;
      crosses = x.crosses;
      lowest = x.lowest;
    }

-- the meeting of k with the line of h, walked either way, is a vertex
pub meeting-vertex :
    (S : List Constraint) (side : Bool) (h k : Constraint) →
    Memᴰ h S →
    Memᴰ k S →
    pos 0 <ᶻ det k (facing side h) →
    Vertex S (reduce (meet k (facing side h)))
meeting-vertex S true h k i j c = record { one = k; other = h; one-member = j; other-member = i; crosses = c; lowest = refl }
meeting-vertex S false h k i j c =
    record {
      one = h;
      other = k;
      one-member = i;
      other-member = j;
      crosses = subst (λ z. pos 0 <ᶻ z) turn-d c;
      lowest = ap reduce (point_path turn-x turn-y turn-d);
    }
  where
    turn-d : det k (reversed h) ≡ det h k
    turn-d = equal (C ∷ C ∷ []) (λ k h. detᵖ k (reversedᵖ h) ≐ detᵖ h k) refl k h

    turn-x : (meet k (reversed h)).x ≡ (meet h k).x
    turn-x = equal (C ∷ C ∷ []) (λ k h. (meetᵖ k (reversedᵖ h)).x ≐ (meetᵖ h k).x) refl k h

    turn-y : (meet k (reversed h)).y ≡ (meet h k).y
    turn-y = equal (C ∷ C ∷ []) (λ k h. (meetᵖ k (reversedᵖ h)).y ≐ (meetᵖ h k).y) refl k h

-- ---- the enumeration

-- what the list of meetings with r holds
listed-meeting :
    (r : Constraint) (l : List Constraint) (v : Point) →
    Memᴰ v (meetings r l) →
    (s : Constraint) × Memᴰ s l × (pos 0 <ᶻ det r s) × (v ≡ reduce (meet r s))
listed-meeting r [] v i = absurd (Memᴰ.not-nil i)
listed-meeting r (s ∷ l) v i = go (lt_z (pos 0) (det r s)) (λ t. lt_z_yes t) i (listed-meeting r l v)
  where
    Listed : List Constraint → Type 0
    Listed m = (s : Constraint) × Memᴰ s m × (pos 0 <ᶻ det r s) × (v ≡ reduce (meet r s))

    later : Listed l → Listed (s ∷ l)
    later (t, j, c, e) = (t, Memᴰ.tail j, c, e)

    go :
        (b : Bool) →
        (T b → pos 0 <ᶻ det r s) →
        Memᴰ v (elim b [ true ↦ reduce (meet r s) ∷ meetings r l | false ↦ meetings r l ]) →
        (Memᴰ v (meetings r l) → Listed l) →
        Listed (s ∷ l)
    go true y j f = ⊎_elim (λ e. (s, Memᴰ.head refl, y tt, e)) (λ k. later (f k)) (Memᴰ.cases_cons j)
    go false y j f = later (f j)

meeting-listed :
    (r : Constraint) (l : List Constraint) (s : Constraint) →
    Memᴰ s l →
    pos 0 <ᶻ det r s →
    Memᴰ (reduce (meet r s)) (meetings r l)
meeting-listed r [] s i c = absurd (Memᴰ.not-nil i)
meeting-listed r (q ∷ l) s i c = go (Memᴰ.cases_cons i) (lt_z (pos 0) (det r q)) (λ t. lt_z_no t) (λ j. meeting-listed r l s j c)
  where
    go :
        (s ≡ q) ⊎ Memᴰ s l →
        (b : Bool) →
        (T (not b) → det r q ≤ᶻ pos 0) →
        (Memᴰ s l → Memᴰ (reduce (meet r s)) (meetings r l)) →
        Memᴰ (reduce (meet r s)) (elim b [ true ↦ reduce (meet r q) ∷ meetings r l | false ↦ meetings r l ])
    go (inl e) true n f = Memᴰ.head (ap (λ z. reduce (meet r z)) e)
    go (inl e) false n f = clash_ℤ (subst (λ z. pos 0 <ᶻ det r z) e c) (n tt)
    go (inr j) true n f = Memᴰ.tail (f j)
    go (inr j) false n f = f j

listed-from :
    (S l : List Constraint) (v : Point) →
    ((r : Constraint) → Memᴰ r l → Memᴰ r S) →
    Memᴰ v (vertices_of S l) →
    Vertex S v
listed-from S [] v old i = absurd (Memᴰ.not-nil i)
listed-from S (r ∷ l) v old i =
    ⊎_elim found (listed-from S l v (λ s j. old s (Memᴰ.tail j))) (Memᴰ.append_cases (meetings r S) i)
  where
    make : (s : Constraint) × Memᴰ s S × (pos 0 <ᶻ det r s) × (v ≡ reduce (meet r s)) → Vertex S v
    make (s, j, c, e) = record { one = r; other = s; one-member = old r (Memᴰ.head refl); other-member = j; crosses = c; lowest = e }

    found : Memᴰ v (meetings r S) → Vertex S v
    found j = make (listed-meeting r S v j)

pub listed-vertex : (S : List Constraint) (v : Point) → Memᴰ v (vertices S) → Vertex S v
listed-vertex S v i = listed-from S S v (λ r j. j) i

listed_at :
    (S l : List Constraint) (r s : Constraint) →
    Memᴰ r l →
    Memᴰ s S →
    pos 0 <ᶻ det r s →
    Memᴰ (reduce (meet r s)) (vertices_of S l)
listed_at S [] r s i j c = absurd (Memᴰ.not-nil i)
listed_at S (q ∷ l) r s i j c = go (Memᴰ.cases_cons i) (λ k. listed_at S l r s k j c)
  where
    go :
        (r ≡ q) ⊎ Memᴰ r l →
        (Memᴰ r l → Memᴰ (reduce (meet r s)) (vertices_of S l)) →
        Memᴰ (reduce (meet r s)) (meetings q S ++ vertices_of S l)
    go (inl e) f =
        Memᴰ.append_left (vertices_of S l) (subst (λ z. Memᴰ (reduce (meet r s)) (meetings z S)) e (meeting-listed r S s j c))
    go (inr k) f = Memᴰ.append_right (meetings q S) (f k)

pub vertex-listed : (S : List Constraint) (v : Point) → Vertex S v → Memᴰ v (vertices S)
vertex-listed S v x =
    subst (λ z. Memᴰ z (vertices S)) (sym x.lowest)
    (listed_at S S x.one x.other x.one-member x.other-member x.crosses)
