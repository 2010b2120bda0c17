-- The readers of terms and sides against the parser, once for both chains: the first item and what follows it, a joining byte with an
-- item more, and the end.
use mathlib.Core.Path.{◌≡◌, ap, sym, ◌∙◌}
use mathlib.Core.List.{List}
use Prim.Native.Nat.{ℕ, zero, suc, ◌<◌}
use native.Mathlib.Omega.{arith}
use lib.ListN.{length}
use Rattle.std.specs.Prelude.{Some, None}
use Rattle.std.specs.Borrow.{Bor}
use Rattle.scanning.specs.Bytes.{tail}
use Rattle.forms.specs.Value.{Value}
use Rattle.forms.specs.Small.{Small}
use Rattle.language.specs.Parser.{Parsed, fail, got, bind, lead}
use Rattle.language.proofs.Steps.{factors-end, terms-end}
use Rattle.language.proofs.Chain.{Chain, Begins, Joins, terms, sides}
use Rattle.typed_rules.specs.Promises.{Step, valued, view, Reached, Enough, ReadsPart, ReadsOn, ReadsFactors, ReadsTerms}
use Rattle.typed_rules.proofs.Parsed.{inv_got, inv_fail}
use Rattle.typed_rules.proofs.Rests.{Item, next-is, other, beyond-is, falls, moved_on, reached, spent}

-- what the readers of an item, of a whole, and of what follows a whole of the value v promise
abbrev ReadsItem : {A B : Type 0} → Chain A B → List ℕ → ℕ → Step → Type 0
ReadsItem c text depth r = ReadsPart c.worth-item c.item_by c.extra text depth r

abbrev ReadsWhole : {A B : Type 0} → Chain A B → List ℕ → ℕ → Step → Type 0
ReadsWhole c text depth r = ReadsPart c.worth-whole c.whole_by (suc c.extra) text depth r

abbrev ReadsMore : {A B : Type 0} → Chain A B → List ℕ → ℕ → Value → Step → Type 0
ReadsMore c text depth v r = ReadsOn c.worth-whole c.more text depth v r

-- ---- the first item

module _ {A B : Type 0} {c : Chain A B} (o : Begins c) {text : List ℕ} {depth : ℕ} {s : Step} where
  pub reads_whole : {r : Step} {v : Value} {l : Bor (List ℕ)} →
      s ≡ Some (v, l) →
      ReadsItem c text depth s →
      ReadsMore c l.now depth v r →
      ReadsWhole c text depth r
  reads_whole {r} {v = v} {l = l} e f g =
      record { same = same; moved = moved_on (suc (length l.now)) (length text) r (omega (arith, p.short)) g.moved }
    where
      p : Reached (length text) v l.now
      p = reached (length text) e f.moved

      same : (k : ℕ) → Enough text (suc c.extra) k → valued c.worth-whole (c.whole_by k depth text) ≡ view r
      same zero h = absurd (omega (arith, h))
      same (suc k) h =
          let q = inv_got c.worth-item (c.item_by k depth text) (f.same k (omega (arith, h)) ∙ ap view e) in
          ap (valued c.worth-whole)
          (o.step k depth text ∙ ap (λ (z : Parsed A). bind z (λ a w. c.more k depth (c.one a) w)) q.1)
          ∙ g.same k (omega (arith, h, p.short)) (c.one q.0) (o.worth q.0 ∙ q.2)

  pub whole_fails : s ≡ None → ReadsItem c text depth s → ReadsWhole c text depth None
  whole_fails e f = record { same = same; moved = tt }
    where
      same : (k : ℕ) → Enough text (suc c.extra) k → valued c.worth-whole (c.whole_by k depth text) ≡ fail
      same zero h = absurd (omega (arith, h))
      same (suc k) h =
          let q = inv_fail c.worth-item (c.item_by k depth text) (f.same k (omega (arith, h)) ∙ ap view e) in
          ap (valued c.worth-whole)
          (o.step k depth text ∙ ap (λ (z : Parsed A). bind z (λ a w. c.more k depth (c.one a) w)) q)

-- ---- an item more

module _ {A B : Type 0} {c : Chain A B} {byte : ℕ} {join : B → ℕ → A → B} {op : Value → Value → Value} (j : Joins c byte join op)
    {text i : List ℕ} {b : ℕ} (x : Item text i b) (y : b ≡ byte) {l : List ℕ} (t : l ≡ tail i) where
  further : length l < length text
  further = falls x t (omega (arith, y, j.some))

  onward : (depth k : ℕ) (a : B) →
      c.more (suc k) depth a text ≡ bind (c.item_by k depth l) (λ d w. c.more k depth (join a (lead text) d) w)
  onward depth k a =
      j.step k depth text a (next-is x ∙ y)
      ∙ ap (λ (z : List ℕ). bind (c.item_by k depth z) (λ d w. c.more k depth (join a (lead text) d) w)) (sym (beyond-is x t))

  item-fuel : (k : ℕ) → Enough text 0 (suc k) → Enough l c.extra k
  item-fuel k h = spent text l c.extra k further (omega (arith, j.few)) h

  pub reads-joined : {depth : ℕ} {s r : Step} {v w u : Value} {m : Bor (List ℕ)} →
      s ≡ Some (w, m) →
      ReadsItem c l depth s →
      u ≡ op v w →
      ReadsMore c m.now depth u r →
      ReadsMore c text depth v r
  reads-joined {depth} {r = r} {v = v} {w = w} {m = m} e f z g =
      record { same = same; moved = moved_on (suc (length m.now)) (suc (length text)) r (omega (arith, further, p.short)) g.moved }
    where
      p : Reached (length l) w m.now
      p = reached (length l) e f.moved

      same : (k : ℕ) →
          Enough text 0 k →
          (a : B) →
          c.worth-whole a ≡ v →
          valued c.worth-whole (c.more k depth a text) ≡ view r
      same zero h a q = absurd (omega (arith, h))
      same (suc k) h a q =
          let n = inv_got c.worth-item (c.item_by k depth l) (f.same k (item-fuel k h) ∙ ap view e) in
          ap (valued c.worth-whole)
          (onward depth k a ∙ ap (λ (o : Parsed A). bind o (λ d w. c.more k depth (join a (lead text) d) w)) n.1)
          ∙ g.same k (spent text m.now 0 k (omega (arith, further, p.short)) (omega arith) h) (join a (lead text) n.0)
          (j.worth a (lead text) n.0 ∙ ap (λ (o : Value). op o (c.worth-item n.0)) q ∙ ap (op v) n.2 ∙ sym z)

  pub joined_fails : {depth : ℕ} {s : Step} {v : Value} →
      s ≡ None →
      ReadsItem c l depth s →
      ReadsMore c text depth v None
  joined_fails {depth} {v = v} e f = record { same = same; moved = tt }
    where
      same : (k : ℕ) →
          Enough text 0 k →
          (a : B) →
          c.worth-whole a ≡ v →
          valued c.worth-whole (c.more k depth a text) ≡ fail
      same zero h a q = absurd (omega (arith, h))
      same (suc k) h a q =
          let n = inv_fail c.worth-item (c.item_by k depth l) (f.same k (item-fuel k h) ∙ ap view e) in
          ap (valued c.worth-whole)
          (onward depth k a ∙ ap (λ (o : Parsed A). bind o (λ d w. c.more k depth (join a (lead text) d) w)) n)

-- ---- the end

stops : {A B : Type 0} (c : Chain A B) {text : Bor (List ℕ)} {depth : ℕ} {v : Value} →
    Small v →
    ((k : ℕ) (b : B) → c.more (suc k) depth b text.now ≡ got b text.now) →
    ReadsMore c text.now depth v (Some (v, text))
stops {A} {B} c {text} {depth} {v} s f =
    record { same = same; moved = record { small = s; short = omega arith } }
  where
    same : (k : ℕ) →
        Enough text.now 0 k →
        (b : B) →
        c.worth-whole b ≡ v →
        valued c.worth-whole (c.more k depth b text.now) ≡ got v text.now
    same zero h b z = absurd (omega (arith, h))
    same (suc k) h b z = ap (valued c.worth-whole) (f k b) ∙ ap (λ (o : Value). got o text.now) z

pub factors-stop : {text : Bor (List ℕ)} {depth : ℕ} {v : Value} {i : List ℕ} {b : ℕ} →
    Item text.now i b →
    (b ≡ 42 → ⊥) →
    Small v →
    ReadsFactors text.now depth v (Some (v, text))
factors-stop {text} {depth} x n s = stops terms s (λ k t. factors-end k depth text.now t (other x 42 n))

pub terms-stop : {text : Bor (List ℕ)} {depth : ℕ} {v : Value} {i : List ℕ} {b : ℕ} →
    Item text.now i b →
    (b ≡ 43 → ⊥) →
    (b ≡ 45 → ⊥) →
    Small v →
    ReadsTerms text.now depth v (Some (v, text))
terms-stop {text} {depth} x p m s = stops sides s (λ k t. terms-end k depth text.now t (other x 43 p) (other x 45 m))
