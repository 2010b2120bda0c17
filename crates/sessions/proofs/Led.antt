-- From what the code does at each step to the step's promise: which refusal it is, and which session is handed back.
use mathlib.Core.Path.{◌≡◌, refl, sym, ◌∙◌, ap, ap₂, subst}
use mathlib.Core.Bool.{Bool, true, false, not, cond, ◌||◌, true≢false}
use Prim.Native.Nat.{ℕ, ◌+◌, ◌≤◌, ◌<◌}
use native.Mathlib.Omega.{arith}
use borrow.Author.Tests.{eq-eqb, ne_eqb, lt-ltb, le-ltb}
use lib.Dec.{T, eqb, ltb}
use lib.IntN.{ℤ, pos}
use mir.Syntax.{w16}
use mir.Val.{SFits, to_z, of_z}
use mir.Facts.{to_z-of_z}
use Rattle.records.specs.declared.Rule.{Rule}
use Rattle.records.specs.declared.Sound.{Sound}
use Rattle.records.specs.Record.{is_least, decoded_with, number_of}
use Rattle.std.proofs.Common.{Option, Some, None, Ok, Err}
use Rattle.std.specs.Prelude.{is_none}
use Rattle.answers.specs.declared.Cause.{Cause}
use Rattle.answers.specs.declared.Cause.TheVariants as cause
use Rattle.answers.specs.declared.Refusal.{Refusal}
use Rattle.answers.specs.Cause.{number_of_cause, numbered}
use Rattle.answers.specs.Refusal.{refusal}
use Rattle.sessions.specs.declared.Session.{Session}
use Rattle.sessions.specs.declared.Step.{Step}
use Rattle.sessions.specs.Sessions.{cause_of, label_held, IsSession}
use Rattle.sessions.specs.Steps.{start_of, longer_by, shorter_by, adding_cause, adding_refusal, Leads, Starts, Adds, Withdraws}
use Rattle.sessions.specs.Checking.{AddingChecked}
use Rattle.sessions.proofs.Checks.{no_cause}
use Rattle.sessions.proofs.Kept.{start-session}

-- ---- the cause that turns a rule back

-- each cause has a number
numbered-some : (k : Cause) → number_of_cause k ≡ 0 → ⊥
numbered-some k e = absurd (true≢false (sym (above k) ∙ ap (ltb 0) e))
  where
    above : (k : Cause) → ltb 0 (number_of_cause k) ≡ true
    above k = elim k as (λ j. ltb 0 (number_of_cause j) ≡ true) [ cause.Length ↦ refl | _ ↦ refl ]

some_apart : {k : Cause} → ◌≡◌ {A = Option Cause} (Some k) None → ⊥
some_apart e = cc

module _ (s : Session) (r : Rule) where
  pub rule-turned : {k : Cause} → decoded_with true r 0 ≡ Err k → AddingChecked s r (Some k)
  rule-turned {k} e =
      record {
        answer =
            ap number_of (sym e)
            ∙ sym (ap (λ b. cond b (cond (label_held s r.label) 12 0) (cause_of r))
            (ne_eqb (cause_of r) 0 (λ z. numbered-some k (ap number_of (sym e) ∙ z))));
        lawful = λ z. absurd (some_apart z);
        new = λ z. absurd (some_apart z);
      }

  module _ {x : Sound} (found : decoded_with true r 0 ≡ Ok x) where
    passes : eqb (cause_of r) 0 ≡ true
    passes = eq-eqb (cause_of r) 0 (ap number_of found)

    pub label-turned : {t : Bool} → t ≡ label_held s r.label → t ≡ true → AddingChecked s r (Some cause.Label)
    label-turned e yes' =
        record {
          answer = sym (ap₂ (λ b c. cond b (cond c 12 0) (cause_of r)) passes (sym e ∙ yes'));
          lawful = λ z. absurd (some_apart z);
          new = λ z. absurd (some_apart z);
        }

    pub none-turned : SFits w16 r.a → SFits w16 r.b → r.label < 65536 → {t : Bool} →
        t ≡ label_held s r.label → t ≡ false → AddingChecked s r None
    none-turned fa fb fl e no' =
        record {
          answer = sym (ap₂ (λ b c. cond b (cond c 12 0) (cause_of r)) passes (sym e ∙ no'));
          lawful = λ z. no_cause r fa fb fl (ap number_of found);
          new = λ z. sym e ∙ no';
        }

-- ---- adding

module _ (s : Session) (r : Rule) (x : Step) where
  refused-so : {k i : ℕ} → adding_refusal s r ≡ Some (refusal k i) → Leads s (Some (refusal k i)) x → Adds s r x
  refused-so e h =
      record {
        session-is = h.session-is ∙ sym (ap (λ (f : Option Refusal). cond (is_none f) (longer_by s r) s) e);
        refusal_is = h.refusal_is ∙ sym e;
        shown = h.shown;
        valid = h.valid;
      }

  pub adds-full : 64 ≤ s.n → Leads s (Some (refusal 18 0)) x → Adds s r x
  adds-full full h =
      refused-so
      (ap (λ b. cond b (cond (eqb (adding_cause s r) 0) None (Some (refusal (adding_cause s r) (s.n + 1)))) (Some (refusal 18 0)))
      (le-ltb s.n 64 full))
      h

  module _ (free : s.n < 64) where
    abbrev by : ℕ → Option Refusal
    by m = cond (eqb m 0) None (Some (refusal m (s.n + 1)))

    by-cause : {k : Option Cause} → AddingChecked s r k → adding_refusal s r ≡ by (numbered k)
    by-cause checked = ap (λ b. cond b (by (adding_cause s r)) (Some (refusal 18 0))) (lt-ltb s.n 64 free) ∙ ap by (sym checked.answer)

    pub adds-turned : (k : Cause) →
        AddingChecked s r (Some k) →
        Leads s (Some (refusal (number_of_cause k) (s.n + 1))) x →
        Adds s r x
    adds-turned k checked h =
        refused-so
        (by-cause checked
        ∙ ap (λ b. cond b None (Some (refusal (number_of_cause k) (s.n + 1)))) (ne_eqb (number_of_cause k) 0 (numbered-some k)))
        h

    pub adds-taken : AddingChecked s r None → {y : Session} → y ≡ longer_by s r → Leads y None x → Adds s r x
    adds-taken checked e h =
        record {
          session-is =
              h.session-is ∙ e
              ∙ sym (ap (λ (f : Option Refusal). cond (is_none f) (longer_by s r) s) (by-cause checked));
          refusal_is = h.refusal_is ∙ sym (by-cause checked);
          shown = h.shown;
          valid = h.valid;
        }

-- ---- withdrawing

module _ (s : Session) (x : Step) where
  pub withdraws_none : s.n ≡ 0 → Leads s (Some (refusal 19 0)) x → Withdraws s x
  withdraws_none e h =
      record {
        session-is = h.session-is ∙ sym (ap (λ b. cond b s (shorter_by s)) (eq-eqb s.n 0 e));
        refusal_is = h.refusal_is ∙ sym (ap (λ b. cond b (Some (refusal 19 0)) None) (eq-eqb s.n 0 e));
        shown = h.shown;
        valid = h.valid;
      }

  pub withdraws_one : (s.n ≡ 0 → ⊥) → {y : Session} → y ≡ shorter_by s → Leads y None x → Withdraws s x
  withdraws_one some e h =
      record {
        session-is = h.session-is ∙ e ∙ sym (ap (λ b. cond b s (shorter_by s)) (ne_eqb s.n 0 some));
        refusal_is = h.refusal_is ∙ sym (ap (λ b. cond b (Some (refusal 19 0)) None) (ne_eqb s.n 0 some));
        shown = h.shown;
        valid = h.valid;
      }

-- ---- starting

abbrev read : ℤ → ℤ
read z = to_z w16 (of_z w16 z)

lawful-none : (s t : Bool) → not (s || t) ≡ true → (s || t) ≡ false
lawful-none true t e = absurd (subst T (sym e) tt)
lawful-none false true e = absurd (subst T (sym e) tt)
lawful-none false false e = refl

unlawful_some : (s t : Bool) → not (s || t) ≡ false → (s || t) ≡ true
unlawful_some true t e = refl
unlawful_some false true e = refl
unlawful_some false false e = absurd (subst T e tt)

both_false : (s t : Bool) → (s || t) ≡ false → (s ≡ false) × (t ≡ false)
both_false true t e = absurd (subst T e tt)
both_false false t e = (refl, e)

module _ (p q lx ly : ℤ) (fp : SFits w16 p) (fq : SFits w16 q) (fx : SFits w16 lx) (fy : SFits w16 ly) where
  back : start_of (read p) (read q) (read lx) (read ly) ≡ start_of p q lx ly
  back =
      λ i. start_of (to_z-of_z {w = w16} fp i) (to_z-of_z {w = w16} fq i) (to_z-of_z {w = w16} fx i) (to_z-of_z {w = w16} fy i)

  -- what was tested of the numbers as they were taken
  tested : {t : Bool} → t ≡ not (is_least (read p) || is_least (read q)) → t ≡ not (is_least p || is_least q)
  tested e = e ∙ ap₂ (λ y z. not (is_least y || is_least z)) (to_z-of_z {w = w16} fp) (to_z-of_z {w = w16} fq)

  module _ {t : Bool} (told : t ≡ not (is_least (read p) || is_least (read q))) where
    pub begun-session : t ≡ true → {y : Session} → y ≡ start_of (read p) (read q) (read lx) (read ly) → IsSession y
    begun-session e ey =
        let clear = both_false (is_least p) (is_least q) (lawful-none (is_least p) (is_least q) (sym (tested told) ∙ e)) in
        subst IsSession (sym (ey ∙ back)) (start-session p q lx ly fp fq fx fy clear.0 clear.1)

    pub starts : t ≡ true →
        {y : Session} →
        y ≡ start_of (read p) (read q) (read lx) (read ly) →
        (x : Step) →
        Leads y None x →
        Starts p q lx ly x
    starts e ey x h =
        let clear = lawful-none (is_least p) (is_least q) (sym (tested told) ∙ e) in
        record {
          session-is =
              h.session-is ∙ ey ∙ back
              ∙ sym (ap (λ b. cond b (start_of (pos 0) (pos 0) (pos 0) (pos 0)) (start_of p q lx ly)) clear);
          refusal_is = h.refusal_is ∙ sym (ap (λ b. cond b (Some (refusal 4 0)) None) clear);
          shown = h.shown;
          valid = h.valid;
        }

    pub starts-refused : t ≡ false →
        {y : Session} →
        y ≡ start_of (pos 0) (pos 0) (pos 0) (pos 0) →
        (x : Step) →
        Leads y (Some (refusal 4 0)) x →
        Starts p q lx ly x
    starts-refused e ey x h =
        let some = unlawful_some (is_least p) (is_least q) (sym (tested told) ∙ e) in
        record {
          session-is =
              h.session-is ∙ ey
              ∙ sym (ap (λ b. cond b (start_of (pos 0) (pos 0) (pos 0) (pos 0)) (start_of p q lx ly)) some);
          refusal_is = h.refusal_is ∙ sym (ap (λ b. cond b (Some (refusal 4 0)) None) some);
          shown = h.shown;
          valid = h.valid;
        }

pub empty-session : {y : Session} → y ≡ start_of (pos 0) (pos 0) (pos 0) (pos 0) → IsSession y
empty-session e =
    subst IsSession (sym e)
    (start-session (pos 0) (pos 0) (pos 0) (pos 0) (record { sfits = lit }) (record { sfits = lit }) (record { sfits = lit })
    (record { sfits = lit }) refl refl)
  where
    lit : 0 < 32768
    lit = omega arith
