-- What start and steps hand back are sessions: an empty one, one with a lawful rule of a new label more, one with the latest rule less.
use mathlib.Core.Path.{◌≡◌, refl, sym, ◌∙◌, ap, subst}
use mathlib.Core.Bool.{false}
use Prim.Native.Nat.{ℕ, zero, suc, ◌+◌, ◌-◌, ◌≤◌, ◌<◌}
use native.Mathlib.Omega.{arith}
use native.Mathlib.Decide.{ℕ_discrete}
use lib.ListN.{get_or, set, replicate, length-set, length-replicate}
use lib.Seq.{get_or-set_same, get_or-set_other}
use lib.IntN.{ℤ}
use mir.Syntax.{w16}
use mir.Val.{SFits}
use Rattle.records.specs.declared.Rule.{Rule}
use Rattle.records.specs.Record.{is_least}
use Rattle.sessions.specs.declared.Session.{Session}
use Rattle.sessions.specs.Sessions.{no_rule, Lawful, label_held, IsSession, Latest}
use Rattle.sessions.specs.Steps.{start_of, longer_by, shorter_by}
use Rattle.sessions.proofs.Labels.{label-new}
use Rattle.sessions.proofs.Checks.{within-top}

-- ---- start

blank-at : (n k : ℕ) → get_or (replicate n no_rule) k no_rule ≡ no_rule
blank-at zero zero = refl
blank-at zero (suc k) = refl
blank-at (suc n) zero = refl
blank-at (suc n) (suc k) = blank-at n k

pub start-session : (p q lx ly : ℤ) →
    SFits w16 p →
    SFits w16 q →
    SFits w16 lx →
    SFits w16 ly →
    is_least p ≡ false →
    is_least q ≡ false →
    IsSession (start_of p q lx ly)
start-session p q lx ly fp fq fx fy ep eq =
    record {
      count = omega arith;
      size = length-replicate 64 no_rule;
      lawful = λ j h. absurd (let z : ⊥ = omega arith in z);
      apart = λ j k h m e. let z : ⊥ = omega arith in z;
      blank = λ j h k. blank-at 64 j;
      objective = record { p-small = record { small = within-top p fp ep }; q-small = record { small = within-top q fq eq } };
      floor-x = fx;
      floor-y = fy;
    }

-- ---- one rule more

module _ (s : Session) (is : IsSession s) (r : Rule) (free : s.n < 64) (ok : Lawful r) (new : label_held s r.label ≡ false) where
  here : get_or (set s.rules s.n r) s.n no_rule ≡ r
  here = get_or-set_same s.rules s.n r no_rule (omega (arith, is.size))

  elsewhere : (j : ℕ) → (j ≡ s.n → ⊥) → get_or (set s.rules s.n r) j no_rule ≡ get_or s.rules j no_rule
  elsewhere j other = get_or-set_other s.rules s.n j r no_rule other

  unheld : (k : ℕ) → k < s.n → (get_or s.rules k no_rule).label ≡ r.label → ⊥
  unheld = label-new s r.label (omega (arith, is.count, is.size)) new

  pub longer-session : IsSession (longer_by s r)
  longer-session =
      record {
        count = omega arith;
        size = length-set s.rules s.n r ∙ is.size;
        lawful = λ j h. lawful j (ℕ_discrete j s.n) h;
        apart = λ j k h m. apart j k h m (ℕ_discrete k s.n);
        blank = λ j h k. elsewhere j (λ e. omega arith) ∙ is.blank j (omega arith) k;
        objective = is.objective;
        floor-x = is.floor-x;
        floor-y = is.floor-y;
      }
    where
      lawful : (j : ℕ) → Dec (j ≡ s.n) → j < s.n + 1 → Lawful (get_or (set s.rules s.n r) j no_rule)
      lawful j (yes e) h = subst Lawful (sym (ap (λ k. get_or (set s.rules s.n r) k no_rule) e ∙ here)) ok
      lawful j (no other) h = subst Lawful (sym (elsewhere j other)) (is.lawful j (omega arith))

      apart : (j k : ℕ) →
          j < k →
          k < s.n + 1 →
          Dec (k ≡ s.n) →
          (get_or (set s.rules s.n r) j no_rule).label ≡ (get_or (set s.rules s.n r) k no_rule).label →
          ⊥
      apart j k h m (yes e) same =
          unheld j (omega (arith, e))
          (sym (ap (λ (x : Rule). x.label) (elsewhere j (λ q. omega (arith, e, q))))
          ∙ same
          ∙ ap (λ i. (get_or (set s.rules s.n r) i no_rule).label) e
          ∙ ap (λ (x : Rule). x.label) here)
      apart j k h m (no other) same =
          is.apart j k h (omega arith)
          (sym (ap (λ (x : Rule). x.label) (elsewhere j (λ q. omega (arith, q))))
          ∙ same
          ∙ ap (λ (x : Rule). x.label) (elsewhere k other))

-- ---- one rule less

module _ (s : Session) (is : IsSession s) (some : 0 < s.n) where
  blanked : get_or (set s.rules (s.n - 1) no_rule) (s.n - 1) no_rule ≡ no_rule
  blanked = get_or-set_same s.rules (s.n - 1) no_rule no_rule (omega (arith, is.count, is.size))

  stays : (j : ℕ) → (j ≡ s.n - 1 → ⊥) → get_or (set s.rules (s.n - 1) no_rule) j no_rule ≡ get_or s.rules j no_rule
  stays j other = get_or-set_other s.rules (s.n - 1) j no_rule no_rule other

  pub latest : Latest s
  latest = record { size = is.size; some = some; count = is.count }

  pub shorter-session : IsSession (shorter_by s)
  shorter-session =
      record {
        count = omega (arith, is.count);
        size = length-set s.rules (s.n - 1) no_rule ∙ is.size;
        lawful = λ j h. subst Lawful (sym (stays j (λ e. omega (arith, e)))) (is.lawful j (omega arith));
        apart =
            λ j k h m same. is.apart j k h (omega arith)
            (sym (ap (λ (x : Rule). x.label) (stays j (λ e. omega (arith, e))))
            ∙ same
            ∙ ap (λ (x : Rule). x.label) (stays k (λ e. omega (arith, e))));
        blank = λ j h k. go j h k (ℕ_discrete j (s.n - 1));
        objective = is.objective;
        floor-x = is.floor-x;
        floor-y = is.floor-y;
      }
    where
      go : (j : ℕ) → s.n - 1 ≤ j → j < 64 → Dec (j ≡ s.n - 1) → get_or (set s.rules (s.n - 1) no_rule) j no_rule ≡ no_rule
      go j h k (yes e) = ap (λ i. get_or (set s.rules (s.n - 1) no_rule) i no_rule) e ∙ blanked
      go j h k (no other) = stays j other ∙ is.blank j (omega arith) k
