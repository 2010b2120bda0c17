-- The state of the walk in the code: what the runs and the table of labels hold where the records of the chain so far are passed, and what one link
-- more makes of it.
use Prim.Native.Nat.{ℕ, ◌+◌, ◌≤◌, ◌<◌}
use mathlib.Core.Path.{◌≡◌, refl, sym, ap, ◌∙◌, subst, subst⁻¹}
use mathlib.Core.List.{List, [], ◌∷◌, ◌++◌, map}
use native.Mathlib.Omega.{arith}
use lib.ListN.{length, set, replicate, length-append, length-map}
use lib.IntN.{ℤ}
use Rattle.std.specs.Prelude.{Option, Some, None, Result, Ok, Err}
use Rattle.answers.specs.declared.Cause.{Cause}
use Rattle.answers.specs.declared.Refusal.{Refusal}
use Rattle.answers.specs.Cause.{number_of_cause, numbered}
use Rattle.answers.specs.Refusal.{refusal}
use Rattle.lp.specs.declared.Terms.{Terms}
use Rattle.records.specs.declared.Rule.{Rule}
use Rattle.records.specs.declared.Heading.{Heading}
use Rattle.records.specs.declared.BadHeading.{BadHeading}
use Rattle.records.specs.declared.Sound.{Sound}
use Rattle.records.specs.Layout.{Layout}
use Rattle.records.specs.Record.{record_at, link_of}
use Rattle.records.specs.Header.{terms_of, count_of, headed, header_cause, header_fault, heading_of}
use Rattle.records.specs.Planned.{planned_rule}
use Rattle.book.specs.declared.Head.{Head}
use Rattle.book.specs.Reading.{Reading, refused, accepted, Ending, entry_at, label_at, end_of}
use Rattle.book.specs.Runs.{put_entry, put_records, put_rules}
use Rattle.book.specs.Promises.{head_of, ReadInto}
use Rattle.book.specs.Causes.{Walked, visit}
use Rattle.book.specs.Tables.{noting}
use Rattle.book.specs.Judging.{Headed, Judges}
use Rattle.book.proofs.Members.{map_snoc}
use Rattle.book.proofs.TableLaws.{Noted, noted-start, noted_step}
use Rattle.book.proofs.Links.{walk_ends}
use Rattle.book.proofs.Results.{ok-err, same_Ok, same_Err}
use Rattle.book.proofs.Causes.{header_good, rule_good, ends_faulty, walked-count, walked-length, walked_next}
use Rattle.book.proofs.Runs.{records-length, records_snoc, rules-length, rules_snoc}
use Rattle.book.proofs.Leading.{some-number, NewRule, Leads, leads-to}

pub record Underway
    (L : Layout) (s : List ℕ) (first : List ℕ) (blank : List ℤ)
    (labels indices : List ℕ) (rules : List ℤ) (n at link : ℕ) : Type 0 where
  pub done : List ℕ
  pub walked : Walked L s done at
  pub met : Noted 1024 labels (map (label_at L s) done)
  pub recorded : indices ≡ put_records first 0 (map (entry_at L s) done)
  pub ruled : rules ≡ put_rules blank 0 (map (entry_at L s) done)
  pub count : n ≡ length done
  pub held : link ≡ link_of L (record_at L s at)

-- a header that is not refused has fault 0, and one that is has its cause's number
headed-ok : (o : Option Cause) (g h : Heading) → headed o g ≡ Ok h → (numbered o ≡ 0) × (g ≡ h)
headed-ok (Some cause) g h e = absurd (ok-err h (record { cause = cause; heading = g }) (sym e))
headed-ok None g h e = (refl, same_Ok g h e)

headed-err : (o : Option Cause) (g : Heading) (bad : BadHeading) → headed o g ≡ Err bad → numbered o ≡ number_of_cause bad.cause
headed-err (Some c) g bad e = ap (λ (b : BadHeading). number_of_cause b.cause) (same_Err (record { cause = c; heading = g }) bad e)
headed-err None g bad e = absurd (ok-err g bad e)

abbrev heading_with : Terms → ℕ → ℕ → Heading
heading_with terms count link = record { terms = terms; count = count; link = link }

-- what a header that is not refused says
pub said-heading : {L : Layout} {s : List ℕ} {h : Heading} →
    Headed L s h →
    heading_with (terms_of L s) (count_of L s) (link_of L (record_at L s 0)) ≡ h
said-heading {L} {s} {h} w = (headed-ok (header_cause L s) _ h w.heading).1

pub starts : {L : Layout} {s : List ℕ} {h : Heading} (first : List ℕ) (blank : List ℤ) →
    Headed L s h →
    Underway L s first blank (replicate 1024 0) first blank 0 0 h.link
unfolding header_fault put_records put_rules
starts {L} {s} {h} first blank w =
    record {
      done = [];
      walked = header_good L s (headed-ok (header_cause L s) _ h w.heading).0;
      met = noted-start 1024;
      recorded = refl;
      ruled = refl;
      count = refl;
      held = ap (λ (x : Heading). x.link) (sym (said-heading w));
    }

-- a header that is refused leaves the runs as they were
pub refused-at-once : (L : Layout) (s first : List ℕ) (blank : List ℤ) {bad : BadHeading} {r : Refusal} →
    heading_of L s ≡ Err bad →
    r ≡ refusal (number_of_cause bad.cause) 0 →
    ReadInto L s first blank (Err r) first blank
unfolding header_fault put_records put_rules
refused-at-once L s first blank {bad} e q =
    let f = headed-err (header_cause L s) _ bad e in
    let z = ends_faulty L s (λ z. some-number bad.cause (sym f ∙ z)) in
    record {
      answer = ap Err q ∙ ap (λ k. head_of (refused k 0)) (sym f) ∙ ap (λ (x : Ending). head_of x.reading) (sym z);
      recorded = ap (λ (x : Ending). put_records first 0 (map (entry_at L s) x.passed)) (sym z);
      ruled = ap (λ (x : Ending). put_rules blank 0 (map (entry_at L s) x.passed)) (sym z);
    }

module _
    {L : Layout} {s : List ℕ} {first : List ℕ} {blank : List ℤ}
    {labels indices : List ℕ} {rules : List ℤ} {n at link : ℕ}
    (w : Underway L s first blank labels indices rules n at link) where
  -- where the walk ends, the runs are as the promise says
  pub finished : {r : Reading} {h : Result Head Refusal} →
      end_of L s ≡ record { reading = r; passed = w.done } →
      h ≡ head_of r →
      ReadInto L s first blank h indices rules
  finished e q =
      record {
        answer = q ∙ ap (λ (x : Ending). head_of x.reading) (sym e);
        recorded = w.recorded ∙ ap (λ (x : Ending). put_records first 0 (map (entry_at L s) x.passed)) (sym e);
        ruled = w.ruled ∙ ap (λ (x : Ending). put_rules blank 0 (map (entry_at L s) x.passed)) (sym e);
      }

  -- the runs keep their lengths
  pub same-indices : length indices ≡ length first
  same-indices = ap (λ (l : List ℕ). length l) w.recorded ∙ records-length first 0 (map (entry_at L s) w.done)

  pub same-rules : length rules ≡ length blank
  same-rules = ap (λ (l : List ℤ). length l) w.ruled ∙ rules-length blank 0 (map (entry_at L s) w.done)

  pub chain-ends : link ≡ 0 →
      end_of L s ≡ record { reading = accepted (terms_of L s) (map (entry_at L s) w.done); passed = w.done }
  chain-ends z = walked_next L s w.walked ∙ walk_ends L s _ w.done at link w.held z

  pub chain_length : n ≡ length (map (entry_at L s) w.done)
  chain_length = w.count ∙ sym (length-map w.done (entry_at L s))

  pub few-passed : n ≤ count_of L s
  few-passed = omega (arith, w.count, walked-length L s w.walked)

  pub count-few : count_of L s < L.records
  count-few = walked-count L s w.walked

  -- what a judged link leads to, by the count that the header says
  pub told : {h : Heading} {r j : Result Sound Refusal} {labels' : List ℕ} →
      Headed L s h →
      (link ≡ 0 → ⊥) →
      Judges L s labels h.count n at link r labels' →
      r ≡ j →
      Leads L s w.done link j
  told {h} head some v q =
      let c : h.count ≡ count_of L s = ap (λ (x : Heading). x.count) (sym (said-heading head)) in
      leads-to (λ b. v.small (subst (λ (k : ℕ). link ≤ k) (sym c) b)) w.walked w.count w.met w.held some c v.answer q

  -- a new rule is passed
  module _
      {r : Rule} {next : ℕ} (some : link ≡ 0 → ⊥)
      (new : NewRule L s w.done link r next) where
    further : Walked L s (w.done ++ (link ∷ [])) link
    further =
        let good = rule_good L s (record_at L s link) new.sound in
        visit w.walked link w.held some new.within new.unvisited good.0 good.1 good.2 new.fresh

    pub more_room : n < count_of L s
    more_room = omega (arith, w.count, walked-length L s further, length-append w.done (link ∷ []))

    longer : map (entry_at L s) (w.done ++ (link ∷ [])) ≡ map (entry_at L s) w.done ++ (entry_at L s link ∷ [])
    longer = map_snoc (entry_at L s) w.done link

    place : 0 + length (map (entry_at L s) w.done) ≡ n
    place = omega (arith, chain_length)

    label_is : r.label ≡ label_at L s link
    label_is = ap (λ (x : Rule). x.label) new.rule

    label_small : label_at L s link < 65536
    label_small = omega (arith, label_is, new.small)

    pub steps : {labels' indices' : List ℕ} {rules' : List ℤ} →
        labels' ≡ noting labels r.label →
        indices' ≡ set indices n link →
        rules' ≡ put_entry rules n (planned_rule r) →
        Underway L s first blank labels' indices' rules' (n + 1) link next
    steps l i q =
        record {
          done = w.done ++ (link ∷ []);
          walked = further;
          met =
              subst⁻¹ (λ (t : List ℕ). Noted 1024 t (map (label_at L s) (w.done ++ (link ∷ [])))) (l ∙ ap (noting labels) label_is)
              (subst (Noted 1024 (noting labels (label_at L s link))) (sym (map_snoc (label_at L s) w.done link))
              (noted_step w.met (label_at L s link) label_small
              (w.met.agrees (label_at L s link) label_small ∙ new.fresh)));
          recorded =
              i
              ∙ (λ j. set (w.recorded j) (sym place j) link)
              ∙ sym (records_snoc first 0 (map (entry_at L s) w.done) (entry_at L s link))
              ∙ ap (put_records first 0) (sym longer);
          ruled =
              q
              ∙ (λ j. put_entry (w.ruled j) (sym place j) (planned_rule (new.rule j)))
              ∙ sym (rules_snoc blank 0 (map (entry_at L s) w.done) (entry_at L s link))
              ∙ ap (put_rules blank 0) (sym longer);
          count = ap (λ k. k + 1) w.count ∙ sym (length-append w.done (link ∷ []));
          held = new.link;
        }
