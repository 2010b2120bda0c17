-- What holds of every session, in document 02's words: start and steps hand back sessions; a refused step hands back what it was handed; to
-- add a rule and then to withdraw it leads back to where one was; there are never more than 64 rules; and the answer is `plan`'s for the
-- bytes of the book that holds exactly the rules of the session, in their order, in records 1 up.
use mathlib.Core.Path.{◌≡◌, refl, sym, ◌∙◌, ap, subst}
use mathlib.Core.Bool.{Bool, true, false, cond, ◌||◌}
use mathlib.Core.List.{List, [], ◌∷◌}
use Prim.Native.Nat.{ℕ, zero, suc, ◌+◌, ◌-◌, ◌≤◌, ◌<◌}
use native.Mathlib.Omega.{arith}
use native.Mathlib.Decide.{ℕ_discrete}
use borrow.Author.Tests.{ne_eqb}
use lib.Dec.{eqb}
use lib.ListN.{length, get_or, set, length-set}
use lib.Seq.{get_or-set_same, get_or-set_other, get_or-take, length-take-le, ext_get_or}
use lib.IntN.{ℤ, pos}
use Rattle.records.specs.declared.Rule.{Rule}
use Rattle.records.specs.Layout.{v2}
use Rattle.records.specs.Record.{is_least}
use Rattle.book.specs.Reading.{accepted, read_of}
use Rattle.book.proofs.Bounds.{SoundRule}
use Rattle.repacker.specs.Repacking.{book_of}
use Rattle.repacker.proofs.Readback.{book-reads}
use Rattle.repacker.proofs.RepackLaws.{usable_v2}
use Rattle.answers.specs.declared.Plan.{Plan}
use Rattle.answers.specs.declared.Refusal.{Refusal}
use Rattle.std.proofs.Common.{Option, Some, None, Ok}
use Rattle.std.specs.Prelude.{is_none}
use Rattle.answers.specs.Refusal.{refusal}
use Rattle.planner.specs.Planning.{AnsweredBy, Answers}
use Rattle.sessions.specs.declared.Session.{Session}
use Rattle.sessions.specs.declared.Step.{Step}
use Rattle.sessions.specs.Sessions.{no_rule, held_of, IsSession, chain_of, Shown}
use Rattle.sessions.specs.Steps.{start_of, longer_by, shorter_by, withdrawing, Starts, Adds, Withdraws}
use Rattle.sessions.proofs.Held.{sound, held-lawful}

-- ---- what is handed back is a session

pub start_hands_back : (p q lx ly : ℤ) (x : Step) → Starts p q lx ly x → IsSession x.session
start_hands_back p q lx ly x h = h.valid

pub add_hands_back : (s : Session) (r : Rule) (x : Step) → Adds s r x → IsSession x.session
add_hands_back s r x h = h.valid

pub withdraw_hands_back : (s : Session) (x : Step) → Withdraws s x → IsSession x.session
withdraw_hands_back s x h = h.valid

-- ---- a refused step changes nothing

-- no step is refused and not refused
never : {o : Option Refusal} {f : Refusal} {s t : Session} → o ≡ None → o ≡ Some f → s ≡ t
never none some = cc

pub refused-add-keeps : (s : Session) (r : Rule) (x : Step) → Adds s r x → (f : Refusal) → x.refusal ≡ Some f → x.session ≡ s
refused-add-keeps s r x h f some =
    h.session-is ∙ ap (λ (g : Option Refusal). cond (is_none g) (longer_by s r) s) (sym h.refusal_is ∙ some)

pub refused-withdraw-keeps : (s : Session) (x : Step) → Withdraws s x → (f : Refusal) → x.refusal ≡ Some f → x.session ≡ s
refused-withdraw-keeps s x h f some = go (eqb s.n 0) refl
  where
    go : (b : Bool) → eqb s.n 0 ≡ b → x.session ≡ s
    go true e = h.session-is ∙ ap (λ c. cond c s (shorter_by s)) e
    go false e = never (h.refusal_is ∙ ap (λ c. cond c (Some (refusal 19 0)) None) e) some

-- a refused start hands back an empty session, objective and floors 0
pub refused-start-empty : (p q lx ly : ℤ) (x : Step) →
    Starts p q lx ly x →
    (f : Refusal) →
    x.refusal ≡ Some f →
    x.session ≡ start_of (pos 0) (pos 0) (pos 0) (pos 0)
refused-start-empty p q lx ly x h f some = go (is_least p || is_least q) refl
  where
    go : (b : Bool) → (is_least p || is_least q) ≡ b → x.session ≡ start_of (pos 0) (pos 0) (pos 0) (pos 0)
    go true e =
        h.session-is ∙ ap (λ c. cond c (start_of (pos 0) (pos 0) (pos 0) (pos 0)) (start_of p q lx ly)) e
    go false e = never (h.refusal_is ∙ ap (λ c. cond c (Some (refusal 4 0)) None) e) some

-- ---- add, then withdraw

taken-add : (s : Session) (r : Rule) (x : Step) → Adds s r x → x.refusal ≡ None → x.session ≡ longer_by s r
taken-add s r x h none =
    h.session-is ∙ ap (λ (g : Option Refusal). cond (is_none g) (longer_by s r) s) (sym h.refusal_is ∙ none)

-- a place that is blank is blank again
blank-again : (s : Session) → IsSession s → (r : Rule) → s.n < 64 → set (set s.rules s.n r) s.n no_rule ≡ s.rules
blank-again s is r free =
    ext_get_or no_rule (set (set s.rules s.n r) s.n no_rule) s.rules
    (length-set (set s.rules s.n r) s.n no_rule ∙ length-set s.rules s.n r)
    (λ j h. go j (ℕ_discrete j s.n))
  where
    go : (j : ℕ) → Dec (j ≡ s.n) → get_or (set (set s.rules s.n r) s.n no_rule) j no_rule ≡ get_or s.rules j no_rule
    go j (yes e) =
        ap (λ i. get_or (set (set s.rules s.n r) s.n no_rule) i no_rule) e
        ∙ get_or-set_same (set s.rules s.n r) s.n no_rule no_rule (omega (arith, length-set s.rules s.n r, is.size))
        ∙ sym (is.blank s.n (omega arith) free)
        ∙ ap (λ i. get_or s.rules i no_rule) (sym e)
    go j (no other) =
        get_or-set_other (set s.rules s.n r) s.n j no_rule no_rule other ∙ get_or-set_other s.rules s.n j r no_rule other

back-again : (s : Session) → IsSession s → (r : Rule) → s.n < 64 → shorter_by (longer_by s r) ≡ s
back-again s is r free =
    let one : s.n + 1 - 1 ≡ s.n = omega arith in
    λ i. record {
      rules = (ap (λ k. set (set s.rules s.n r) k no_rule) one ∙ blank-again s is r free) i;
      n = one i;
      terms = s.terms;
    }

-- a rule that is added and withdrawn leaves no trace: the session is the one from before, and so is all that can be done with it
pub add-withdraw : (s : Session) → IsSession s →
    (r : Rule) (x y : Step) →
    Adds s r x →
    x.refusal ≡ None →
    Withdraws x.session y →
    (y.session ≡ s) × (y.refusal ≡ None)
add-withdraw s is r x y h none k = (
  k.session-is
      ∙ ap (λ (z : Session). cond (eqb z.n 0) z (shorter_by z)) added
      ∙ ap (λ b. cond b (longer_by s r) (shorter_by (longer_by s r))) some
      ∙ back-again s is r free,
  k.refusal_is
      ∙ ap (λ (z : Session). withdrawing z) added
      ∙ ap (λ b. cond b (Some (refusal 19 0)) None) some,
)
  where
    added : x.session ≡ longer_by s r
    added = taken-add s r x h none

    some : eqb (s.n + 1) 0 ≡ false
    some = ne_eqb (s.n + 1) 0 (λ e. let z : ⊥ = omega arith in z)

    free : s.n < 64
    free =
        let many : x.session.n ≡ s.n + 1 = ap (λ (z : Session). z.n) added in
        let few = h.valid.count in
        omega (arith, many, few)

-- ---- never more than 64

pub at-most_64 : (s : Session) → IsSession s → length (held_of s) ≤ 64
at-most_64 s is = omega (arith, length-take-le s.n s.rules (omega (arith, is.count, is.size)), is.count)

-- ---- the answer

-- inside a list it does not matter what stands outside
inside : (l : List Rule) (j : ℕ) (d : Rule) → j < length l → get_or l j d ≡ get_or l j no_rule
inside [] j d h = absurd (let z : ⊥ = omega arith in z)
inside (r ∷ l) zero d h = refl
inside (r ∷ l) (suc j) d h = inside l j d (omega arith)

module _ (s : Session) (is : IsSession s) where
  -- the book that holds exactly these rules, in their order, in records 1 up
  abbrev pub book : List ℕ
  book = book_of v2 s.terms (held_of s)

  many : length (held_of s) ≡ s.n
  many = length-take-le s.n s.rules (omega (arith, is.count, is.size))

  held_at : (j : ℕ) (d : Rule) → j < length (held_of s) → get_or (held_of s) j d ≡ get_or (held_of s) j no_rule
  held_at j d h = inside (held_of s) j d h

  -- its bytes read as the session's terms and rules
  pub book-accepted : read_of v2 (book_of v2 s.terms (held_of s)) ≡ accepted s.terms (chain_of s)
  book-accepted =
      book-reads v2 usable_v2 s.terms (held_of s) (omega (arith, many, is.count)) is.objective (is.floor-x, is.floor-y)
      (λ j d h. let ok = held-lawful s is j h in
      (subst SoundRule (sym (held_at j d h)) (sound (get_or (held_of s) j no_rule) ok), omega (arith, ap (λ (r : Rule). r.label) (held_at j d h), ok.label)))
      (λ j k d h m same. is.apart j k h (omega (arith, many))
      (sym (ap (λ (r : Rule). r.label) (at_place j d (omega arith))) ∙ same ∙ ap (λ (r : Rule). r.label) (at_place k d m)))
    where
      at_place : (j : ℕ) (d : Rule) → j < length (held_of s) → get_or (held_of s) j d ≡ get_or s.rules j no_rule
      at_place j d h = held_at j d h ∙ get_or-take s.n s.rules j no_rule (omega (arith, many))

  -- so that the answer of a session is `plan`'s for that book
  pub answer_of_the_book : (p : Plan) → Shown s p → Answers v2 (book_of v2 s.terms (held_of s)) (Ok p)
  answer_of_the_book p shown =
      record { answered = subst (λ x. AnsweredBy x (Ok p)) (sym book-accepted) shown.answer }
