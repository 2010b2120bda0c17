-- Edges in a run of indices, place by place: what they ask of numbers. There is no geometry in it.
use mathlib.Core.Path.{◌≡◌, refl, sym, ◌∙◌, ap, subst}
use mathlib.Core.List.{List}
use Prim.Native.Nat.{ℕ, zero, suc, ◌+◌, ◌-◌, ◌≤◌, ◌<◌}
use native.Mathlib.Omega.{arith}
use lib.ListN.{get_or}
use lib.IntN.{ℤ, pos, negsuc, ◌-ℤ◌}
use mir.Syntax.{w64}
use mir.Val.{SFits}
use Rattle.ints.specs.Within.{Within}
use Rattle.ints.proofs.Bits.{read}
use Rattle.ints.proofs.Machine.{within-fits, within-read, within-sub, within-mul, within-numeral, weaken}
use Rattle.lp.specs.declared.Constraint.{Constraint}
use Rattle.lp.specs.declared.Floors.{Floors}
use Rattle.lp.specs.declared.Point.{Point}
use Rattle.lp.specs.Program.{constraint}
use Rattle.lp.specs.Outcome.{meet}
use Rattle.lp.specs.Range.{SmallConstraint, SmallFloors}
use Rattle.boundary.specs.Size.{size, horizon}
use Rattle.amounts.specs.Sizes.{Distance}
use Rattle.engine.specs.Sizes.{Room, Entries, SmallTriple}
use Rattle.engine.specs.Row.{named, edge}
use Rattle.engine.specs.Rings.{At, Pair, Place, Ring}
use Rattle.amounts.proofs.Sizes.{within-unread}

-- ---- a constraint at a point, or at one at infinity

pub at-point :
    {r : Constraint} {v : Point} →
    SmallConstraint r →
    SmallTriple v →
    Distance r.a v.x r.b v.y r.c v.d
at-point h k =
    record {
      a_small = h.a_small;
      x-small = k.x-small;
      b-small = h.b-small;
      y-small = k.y-small;
      c-small = h.c-small;
      d_small = k.d_small;
    }

-- the corner of two constraints within document 01's bounds is within its own
pub meet-small : {p q : Constraint} → SmallConstraint p → SmallConstraint q → {v : Point} → v ≡ meet p q → SmallTriple v
meet-small s t e =
    subst SmallTriple (sym e)
    (record {
      x-small = weaken tt (within-sub (within-mul s.c-small t.b-small) (within-mul t.c-small s.b-small));
      y-small = weaken tt (within-sub (within-mul s.a_small t.c-small) (within-mul t.a_small s.c-small));
      d_small = weaken tt (within-sub (within-mul s.a_small t.b-small) (within-mul t.a_small s.b-small));
    })

-- an edge that was read from the run
pub read_small : {p r : Constraint} → SmallConstraint p → r ≡ p → SmallConstraint r
read_small s e = subst SmallConstraint (sym e) s

pub size_small : {f : Floors} → SmallFloors f → SmallConstraint (size f)
size_small h =
    record {
      a_small = within-numeral tt;
      b-small = within-numeral tt;
      c-small = weaken tt (within-sub (within-sub {m = 1} {a = pos 1} (within-numeral tt) h.lx_small) h.ly_small);
    }

pub horizon-small : SmallConstraint horizon
horizon-small = record { a_small = within-numeral tt; b-small = within-numeral tt; c-small = within-numeral tt }

-- ---- the size, computed: every number on the way is read back from its bits

module _ {f : Floors} (h : SmallFloors f) where
  first-within : Within 32769 (pos 1 -ℤ read f.lx)
  first-within = within-sub {m = 1} {a = pos 1} (within-numeral tt) (within-read h.lx_small tt)

  pub size-c-first : SFits w64 (pos 1 -ℤ read f.lx)
  size-c-first = within-fits first-within tt

  second-within : Within 65537 (read (pos 1 -ℤ read f.lx) -ℤ read f.ly)
  second-within = within-sub (within-read first-within tt) (within-read h.ly_small tt)

  pub size-c-second : SFits w64 (read (pos 1 -ℤ read f.lx) -ℤ read f.ly)
  size-c-second = within-fits second-within tt

  pub size-read :
      constraint (read (negsuc 0)) (read (negsuc 0)) (read (read (pos 1 -ℤ read f.lx) -ℤ read f.ly)) ≡ size f
  size-read =
      ap (constraint (negsuc 0) (negsuc 0))
      (within-unread second-within tt
      ∙ λ i. (within-unread first-within tt ∙ ap (λ z. pos 1 -ℤ z) (within-unread h.lx_small tt)) i
      -ℤ within-unread h.ly_small tt i)

-- ---- one edge

-- an index above 0 names an entry
pub edge-room : {e : List ℤ} {run : List ℕ} {k : ℕ} → At e run k → 1 ≤ get_or run k 0 → Room e (get_or run k 0 - 1)
edge-room h b = record { room = omega (arith, h.room) }

pub edge-horizon : (e : List ℤ) (i : ℕ) → i < 1 → horizon ≡ named e i
edge-horizon e zero b = refl
edge-horizon e (suc i) b = absurd (never b)
  where
    never : suc i < 1 → ⊥
    never c = omega arith

pub edge-entry : (e : List ℤ) (i : ℕ) → 1 ≤ i → {r : Constraint} → r ≡ named e (suc (i - 1)) → r ≡ named e i
edge-entry e i b s = s ∙ ap (named e) one
  where
    one : suc (i - 1) ≡ i
    one = omega arith

named_small : {e : List ℤ} {m : ℕ} → Entries e m → (i : ℕ) → i ≤ m → SmallConstraint (named e i)
named_small h zero b = horizon-small
named_small h (suc i) b = h.small i (omega arith)

-- ---- what a ring gives at a place of its run

module _ {e : List ℤ} {run : List ℕ} {lo n : ℕ} (r : Ring e run lo n) where
  there : (p : ℕ) → lo ≤ p → p < lo + n → get_or run p 0 ≤ r.count
  there p a b = subst (λ (q : ℕ). get_or run q 0 ≤ r.count) same (r.named (p - lo) (omega arith))
    where
      same : lo + (p - lo) ≡ p
      same = omega arith

  pub ring-at : (p : ℕ) → lo ≤ p → p < lo + n → At e run p
  ring-at p a b = record { place = omega (arith, r.fits); room = omega (arith, there p a b, r.entries.room) }

  pub ring-small : (p : ℕ) → lo ≤ p → p < lo + n → SmallConstraint (edge e run p)
  ring-small p a b = named_small r.entries (get_or run p 0) (there p a b)

  -- two places of it
  pub ring-pair :
      {h : Constraint} → SmallConstraint h → (p q : ℕ) → lo ≤ p → p < lo + n → lo ≤ q → q < lo + n → Pair e run h p q
  ring-pair s p q a b c d =
      record {
        first = ring-at p a b;
        second = ring-at q c d;
        meeting = record { h-small = s; p-small = ring-small p a b; q-small = ring-small q c d };
      }

  pub ring-place : {w : Point} → SmallTriple w → (p q : ℕ) → lo ≤ p → p < lo + n → lo ≤ q → q < lo + n → Place e run w p q
  ring-place s p q a b c d =
      record {
        first = ring-at p a b;
        second = ring-at q c d;
        first_small = ring-small p a b;
        second-small = ring-small q c d;
        w-small = s;
      }
