-- The line of a slip is read back as that slip, so that a text says one slip at most. Every number is read from where it was written, and
-- what follows a field begins with a space or a line feed, or is nothing.
use mathlib.Core.Path.{◌≡◌, refl, ap, sym, ◌∙◌, subst}
use mathlib.Core.Bool.{Bool, true, false, cond, ◌||◌}
use mathlib.Core.List.{List, [], ◌∷◌, ◌++◌, append_assoc, append-nil}
use mathlib.Core.Logic.{inl, inr}
use Prim.Native.Nat.{ℕ, zero, suc, ◌+◌, ◌-◌, ◌*◌, ◌≤◌, ◌<◌}
use native.Mathlib.Omega.{arith}
use lib.Dec.{T, eqb, leb}
use lib.ListN.{drop, get_or}
use lib.IntN.{ℤ, pos, negsuc, ◌-ℤ◌, ◌+ℤ◌}
use lib.Signed.{le_z}
use borrow.Author.Tests.{ne_eqb, le-leb, leb-false, lt-leb, lt-ltb}
use Rattle.lp.specs.declared.Point.{Point}
use Rattle.lp.specs.declared.Ray.{Ray}
use Rattle.lp.specs.declared.Outcome.{Outcome}
use Rattle.lp.specs.declared.Outcome.TheVariants.{Infeasible, Unbounded, Optimal}
use Rattle.lp.specs.Program.{point, ray}
use Rattle.text.specs.Text.{text}
use Rattle.text.specs.Number.{decimal, value_from, signed, integer}
use Rattle.pairs.specs.Pair.{pair, direction}
use Rattle.text.proofs.Reading.{Digits, decimal-value, decimal-digits, no_leading_zero}
use Rattle.slip.specs.declared.Weights.{Weights}
use Rattle.slip.specs.declared.Slip.{Slip}
use Rattle.slip.specs.Slots.{one, two, three}
use Rattle.slip_text.specs.Text.{code_text, slot_text, entries_text, fields_of, slip_text}
use Rattle.slip_text.proofs.Parts.{back}
use Rattle.slip_reader.specs.Fields.{ends, grown, size_from, past, greatest, signed_of, is_minus, integer_in, past_field}
use Rattle.slip_reader.specs.Fields.{record_code, code_in, slot_code, slot_weight, past_slot, counted_of, weights_in, no_weights}
use Rattle.slip_reader.specs.Fields.{point_in, past_pair, best_in, unlimited_in, impossible_in, slip_in}
use Rattle.slip_reader.specs.Reading.{Slotted, Counted, Plain, Wide, WideWeights, WideOutcome, Stands, Says}

-- ---- what follows a field

pub record Ended (r : List ℕ) : Type 0 where
  pub size : (n : ℕ) → size_from n r ≡ n
  pub stays : past r ≡ r

pub ended_nil : Ended []
unfolding size_from past
ended_nil = record { size = λ n. refl; stays = refl }

pub ended_feed : Ended (text "\n")
unfolding size_from past
ended_feed = record { size = λ n. refl; stays = refl }

pub ended-space : (l : List ℕ) → Ended (32 ∷ l)
unfolding size_from past
ended-space l = record { size = λ n. refl; stays = refl }

ended-integer : (z : ℤ) (r : List ℕ) → Ended (integer z ++ r)
unfolding integer
ended-integer z r = ended-space (signed z ++ r)

-- ---- digits

no_end : (b : ℕ) → 48 ≤ b → ends b ≡ false
no_end b h =
    ap (λ t. t || eqb b 10) (ne_eqb b 32 (λ e. omega arith)) ∙ ne_eqb b 10 (λ e. omega arith)

value_grows : (n : ℕ) (ds : List ℕ) → n ≤ value_from n ds
unfolding value_from
value_grows n [] = omega arith
value_grows n (d ∷ ds) = omega (arith, value_grows (n * 10 + (d - 48)) ds)

digits-size : (n : ℕ) (ds r : List ℕ) →
    Digits ds →
    Ended r →
    value_from n ds ≤ 9223372036854775808 →
    size_from n (ds ++ r) ≡ value_from n ds
unfolding size_from value_from
digits-size n [] r d e h = e.size n
digits-size n (b ∷ ds) r d e h =
    ap (λ t. cond t n (size_from (grown n b) (ds ++ r))) (no_end b d.0)
    ∙ ap (λ t. size_from (cond t (n * 10 + (b - 48)) n) (ds ++ r))
    (le-leb n 922337203685477580 (omega (arith, h, value_grows (n * 10 + (b - 48)) ds)))
    ∙ digits-size (n * 10 + (b - 48)) ds r d.2 e h

digits-past : (ds r : List ℕ) → Digits ds → Ended r → past (ds ++ r) ≡ r
unfolding past
digits-past [] r d e = e.stays
digits-past (b ∷ ds) r d e = ap (λ t. cond t (b ∷ ds ++ r) (past (ds ++ r))) (no_end b d.0) ∙ digits-past ds r d.2 e

first-digit : (n : ℕ) → 48 ≤ get_or (decimal n) 0 0
unfolding decimal
first-digit zero = omega arith
first-digit (suc n) = omega (arith, no_leading_zero (suc n) (omega arith))

-- the first byte of a row of digits is a digit, and neither a minus nor a letter
first-is : (ds r : List ℕ) →
    Digits ds →
    48 ≤ get_or ds 0 0 →
    (48 ≤ get_or (ds ++ r) 0 0) × (get_or (ds ++ r) 0 0 ≤ 57)
first-is [] r d h = absurd (omega (arith, h))
first-is (b ∷ ds) r d h = (d.0, d.1)

-- ---- a number

pub record Took (l : List ℕ) (z : ℤ) (r : List ℕ) : Type 0 where
  pub value : integer_in l ≡ z
  pub rest : past_field l ≡ r

plain-number : (n : ℕ) (r : List ℕ) → n ≤ 9223372036854775807 → Ended r → Took (32 ∷ decimal n ++ r) (pos n) r
unfolding integer_in past_field
plain-number n r h e =
    let f = first-is (decimal n) r (decimal-digits n) (first-digit n) in
    let m : is_minus (decimal n ++ r) ≡ false = ne_eqb (get_or (decimal n ++ r) 0 0) 45 (λ q. omega (arith, f.0, q)) in
    let v : size_from 0 (decimal n ++ r) ≡ n =
    digits-size 0 (decimal n) r (decimal-digits n) e (omega (arith, decimal-value n)) ∙ decimal-value n in
    record {
      value =
          (λ i. signed_of (m i) (size_from 0 (cond (m i) (drop 1 (decimal n ++ r)) (decimal n ++ r))))
          ∙ ap (signed_of false) v
          ∙ ap (λ t. cond t (pos n) (pos greatest)) (le-leb n greatest h);
      rest =
          ap (λ t. past (cond t (drop 1 (decimal n ++ r)) (decimal n ++ r))) m
          ∙ digits-past (decimal n) r (decimal-digits n) e;
    }

least-is : (n : ℕ) → n ≤ 9223372036854775807 → signed_of true (suc n) ≡ negsuc n
least-is n h = go (leb (suc n) greatest) refl
  where
    go : (t : Bool) → leb (suc n) greatest ≡ t → cond t (negsuc n) (negsuc greatest) ≡ negsuc n
    go true e = refl
    go false e = ap negsuc (omega (arith, h, leb-false (suc n) greatest e))

minus_number : (n : ℕ) (r : List ℕ) → n ≤ 9223372036854775807 → Ended r → Took (32 ∷ 45 ∷ decimal (suc n) ++ r) (negsuc n) r
unfolding integer_in past_field
minus_number n r h e =
    let v : size_from 0 (decimal (suc n) ++ r) ≡ suc n =
    digits-size 0 (decimal (suc n)) r (decimal-digits (suc n)) e (omega (arith, decimal-value (suc n))) ∙ decimal-value (suc n) in
    record {
      value = ap (signed_of true) v ∙ least-is n h;
      rest = digits-past (decimal (suc n)) r (decimal-digits (suc n)) e;
    }

pub integer-read : (z : ℤ) (r : List ℕ) → Wide z → Ended r → Took (integer z ++ r) z r
unfolding integer signed
integer-read (pos n) r w e = plain-number n r (omega (arith, w.sfits)) e
integer-read (negsuc n) r w e = minus_number n r (omega (arith, w.sfits)) e

-- ---- an entry

pub record TookCode (l : List ℕ) (z : ℤ) (r : List ℕ) : Type 0 where
  pub value : code_in l ≡ z
  pub rest : past_field l ≡ r

letter-x : (r : List ℕ) → Ended r → TookCode (text " X" ++ r) (pos 0) r
unfolding code_in past_field past
letter-x r e = record { value = refl; rest = e.stays }

letter-y : (r : List ℕ) → Ended r → TookCode (text " Y" ++ r) (pos 1) r
unfolding code_in past_field past
letter-y r e = record { value = refl; rest = e.stays }

-- the code of a record: one more than its index
record-code : (q : ℕ) → suc q < 9223372036854775807 → record_code (pos (suc q)) ≡ pos (suc (suc q))
record-code q h =
    (λ i. elim (lt-leb (suc q) 0 (omega arith) i) [
      | true ↦ pos 0
      | false ↦ elim (lt-ltb (suc q) greatest h i) [ true ↦ pos (suc q) +ℤ pos 1 | false ↦ pos (suc q) ]
    ])
    ∙ ap pos (omega arith)

record-text : (q : ℕ) → code_text (pos (suc (suc q))) ≡ integer (pos (suc q))
unfolding code_text
record-text q =
    (λ i. elim (lt-leb (suc (suc q)) 0 (omega arith) i) [
      | true ↦ text " X"
      | false ↦ elim (lt-leb (suc (suc q)) 1 (omega arith) i) [ true ↦ text " Y" | false ↦ integer (pos (suc (suc q)) -ℤ pos 1) ]
    ])
    ∙ ap integer (back (suc q))

digit-code : (q : ℕ) (r : List ℕ) → suc q < 9223372036854775807 → Ended r → TookCode (integer (pos (suc q)) ++ r) (pos (suc (suc q))) r
unfolding code_in integer signed
digit-code q r h e =
    let n = suc q in
    let f = first-is (decimal n) r (decimal-digits n) (first-digit n) in
    let x : eqb (get_or (decimal n ++ r) 0 0) 88 ≡ false = ne_eqb (get_or (decimal n ++ r) 0 0) 88 (λ k. omega (arith, f.1, k)) in
    let y : eqb (get_or (decimal n ++ r) 0 0) 89 ≡ false = ne_eqb (get_or (decimal n ++ r) 0 0) 89 (λ k. omega (arith, f.1, k)) in
    let took = plain-number n r (omega (arith, h)) e in
    record {
      value =
          (λ i. elim (x i) [ true ↦ pos 0 | false ↦ elim (y i) [ true ↦ pos 1 | false ↦ record_code (took.value i) ] ])
          ∙ record-code q h;
      rest = took.rest;
    }

pub code_read : (c : ℤ) (r : List ℕ) → le_z (pos 0) c ≡ true → Wide c → Ended r → TookCode (code_text c ++ r) c r
unfolding code_text
code_read (pos zero) r h w e = letter-x r e
code_read (pos (suc zero)) r h w e = letter-y r e
code_read (pos (suc (suc q))) r h w e =
    subst (λ l. TookCode (l ++ r) (pos (suc (suc q))) r) (sym (record-text q)) (digit-code q r (omega (arith, w.sfits)) e)
code_read (negsuc n) r h w e = absurd (subst T (sym h) tt)

ended-code : (c : ℤ) (r : List ℕ) → Ended (code_text c ++ r)
unfolding code_text
ended-code c r = go (le_z c (pos 0)) (le_z c (pos 1))
  where
    go : (t u : Bool) →
        Ended (elim t [ true ↦ text " X" | false ↦ elim u [ true ↦ text " Y" | false ↦ integer (c -ℤ pos 1) ] ] ++ r)
    go true u = ended-space (88 ∷ r)
    go false true = ended-space (89 ∷ r)
    go false false = ended-integer (c -ℤ pos 1) r

-- ---- an entry and its weight, if they count

pub record TookSlot (counts : Bool) (l : List ℕ) (c w : ℤ) (r : List ℕ) : Type 0 where
  pub code : slot_code counts l ≡ c
  pub weight : slot_weight counts l ≡ w
  pub rest : past_slot counts l ≡ r

pub slot_read : (counts : Bool) (c w : ℤ) (r : List ℕ) →
    Slotted counts c w →
    Wide c →
    Wide w →
    Ended r →
    TookSlot counts (slot_text counts c w ++ r) c w r
unfolding slot_text slot_code slot_weight past_slot
slot_read true c w r h f g e =
    let taken = append_assoc (code_text c) (integer w) r in
    let code = code_read c (integer w ++ r) h f (ended-integer w r) in
    let weight = integer-read w r g e in
    record {
      code = ap code_in taken ∙ code.value;
      weight = ap integer_in (ap past_field taken ∙ code.rest) ∙ weight.value;
      rest = ap past_field (ap past_field taken ∙ code.rest) ∙ weight.rest;
    }
slot_read false c w r h f g e = record { code = sym h.0; weight = sym h.1; rest = refl }

ended_slot : (counts : Bool) (c w : ℤ) (r : List ℕ) → Ended r → Ended (slot_text counts c w ++ r)
unfolding slot_text
ended_slot true c w r e = subst Ended (sym (append_assoc (code_text c) (integer w) r)) (ended-code c (integer w ++ r))
ended_slot false c w r e = e

-- ---- the number of entries, and each

pub entries-read : (w : Weights) (r : List ℕ) → Counted w → WideWeights w → Ended r → weights_in w.scale (entries_text w ++ r) ≡ w
unfolding entries_text weights_in
entries-read w r c f e =
    let a = slot_text (one w) w.first w.first_weight in
    let b = slot_text (two w) w.second w.second_weight in
    let d = slot_text (three w) w.third w.third_weight in
    let row : (a ++ (b ++ d)) ++ r ≡ a ++ (b ++ (d ++ r)) = append_assoc a (b ++ d) r ∙ ap (λ l. a ++ l) (append_assoc b d r) in
    let whole : (integer w.count ++ (a ++ (b ++ d))) ++ r ≡ integer w.count ++ (a ++ (b ++ (d ++ r))) =
    append_assoc (integer w.count) (a ++ (b ++ d)) r ∙ ap (λ l. integer w.count ++ l) row in
    let end₃ = ended_slot (three w) w.third w.third_weight r e in
    let end₂ = ended_slot (two w) w.second w.second_weight (d ++ r) end₃ in
    let end₁ = ended_slot (one w) w.first w.first_weight (b ++ (d ++ r)) end₂ in
    let k = integer-read w.count (a ++ (b ++ (d ++ r))) f.count end₁ in
    let first = slot_read (one w) w.first w.first_weight (b ++ (d ++ r)) c.first f.first f.first-weight end₂ in
    let second = slot_read (two w) w.second w.second_weight (d ++ r) c.second f.second f.second-weight end₃ in
    let third = slot_read (three w) w.third w.third_weight r c.third f.third f.third-weight e in
    (λ i. counted_of w.scale (integer_in (whole i)) (past_field (whole i)))
    ∙ (λ i. counted_of w.scale (k.value i) (k.rest i))
    ∙ (λ i. record {
      scale = w.scale;
      count = w.count;
      first = first.code i;
      first_weight = first.weight i;
      second = (ap (slot_code (two w)) first.rest ∙ second.code) i;
      second_weight = (ap (slot_weight (two w)) first.rest ∙ second.weight) i;
      third = (ap (λ l. slot_code (three w) (past_slot (two w) l)) first.rest ∙ ap (slot_code (three w)) second.rest ∙ third.code) i;
      third_weight =
          (ap (λ l. slot_weight (three w) (past_slot (two w) l)) first.rest ∙ ap (slot_weight (three w)) second.rest
          ∙ third.weight) i;
    })

-- ---- X, Y and D

pub record TookPair (l : List ℕ) (v : Point) (r : List ℕ) : Type 0 where
  pub value : point_in l ≡ v
  pub rest : past_pair l ≡ r

pub pair_read : (v : Point) (r : List ℕ) →
    Wide v.x →
    Wide v.y →
    Wide v.d →
    Ended r →
    TookPair (pair v ++ r) v r
unfolding pair point_in past_pair
pair_read v r a b c e =
    let row : (integer v.x ++ (integer v.y ++ integer v.d)) ++ r ≡ integer v.x ++ (integer v.y ++ (integer v.d ++ r)) =
    append_assoc (integer v.x) (integer v.y ++ integer v.d) r
    ∙ ap (λ l. integer v.x ++ l) (append_assoc (integer v.y) (integer v.d) r) in
    let x = integer-read v.x (integer v.y ++ (integer v.d ++ r)) a (ended-integer v.y (integer v.d ++ r)) in
    let y = integer-read v.y (integer v.d ++ r) b (ended-integer v.d r) in
    let d = integer-read v.d r c e in
    let rest = ap past_field row ∙ x.rest in
    let rest₂ = ap past_field rest ∙ y.rest in
    record {
      value = λ i. point ((ap integer_in row ∙ x.value) i) ((ap integer_in rest ∙ y.value) i) ((ap integer_in rest₂ ∙ d.value) i);
      rest = ap past_field rest₂ ∙ d.rest;
    }

-- ---- the slip

ended-entries : (w : Weights) (r : List ℕ) → Ended (entries_text w ++ r)
unfolding entries_text
ended-entries w r =
    subst Ended (sym (append_assoc (integer w.count) (slot_text (one w) w.first w.first_weight
    ++ (slot_text (two w) w.second w.second_weight ++ slot_text (three w) w.third w.third_weight)) r))
    (ended-integer w.count ((slot_text (one w) w.first w.first_weight
    ++ (slot_text (two w) w.second w.second_weight ++ slot_text (three w) w.third w.third_weight)) ++ r))

best-read : (v : Point) (w : Weights) (r : List ℕ) →
    Counted w →
    WideOutcome (Optimal v) →
    WideWeights w →
    Ended r →
    best_in ((pair v ++ (integer w.scale ++ entries_text w)) ++ r) ≡ record { outcome = Optimal v; weights = w }
best-read v w r c f g e =
    let row : (pair v ++ (integer w.scale ++ entries_text w)) ++ r ≡ pair v ++ (integer w.scale ++ (entries_text w ++ r)) =
    append_assoc (pair v) (integer w.scale ++ entries_text w) r
    ∙ ap (λ l. pair v ++ l) (append_assoc (integer w.scale) (entries_text w) r) in
    let taken = pair_read v (integer w.scale ++ (entries_text w ++ r)) f.0 f.1 f.2
    (ended-integer w.scale (entries_text w ++ r)) in
    let scale = integer-read w.scale (entries_text w ++ r) g.scale (ended-entries w r) in
    let rest = ap past_pair row ∙ taken.rest in
    λ i. record {
      outcome = Optimal ((ap point_in row ∙ taken.value) i);
      weights =
          ((λ j. weights_in ((ap integer_in rest ∙ scale.value) j) ((ap past_field rest ∙ scale.rest) j)) ∙ entries-read w r c g e) i;
    }

unlimited-read : (v : Point) (d : Ray) (r : List ℕ) →
    WideOutcome (Unbounded v d) →
    Ended r →
    unlimited_in ((pair v ++ direction d) ++ r) ≡ record { outcome = Unbounded v d; weights = no_weights }
unfolding direction
unlimited-read v d r f e =
    let row : (pair v ++ (integer d.dx ++ integer d.dy)) ++ r ≡ pair v ++ (integer d.dx ++ (integer d.dy ++ r)) =
    append_assoc (pair v) (integer d.dx ++ integer d.dy) r
    ∙ ap (λ l. pair v ++ l) (append_assoc (integer d.dx) (integer d.dy) r) in
    let taken = pair_read v (integer d.dx ++ (integer d.dy ++ r)) f.0 f.1 f.2
    (ended-integer d.dx (integer d.dy ++ r)) in
    let dx = integer-read d.dx (integer d.dy ++ r) f.3 (ended-integer d.dy r) in
    let dy = integer-read d.dy r f.4 e in
    let rest = ap past_pair row ∙ taken.rest in
    let rest₂ = ap past_field rest ∙ dx.rest in
    λ i. record {
      outcome =
          Unbounded ((ap point_in row ∙ taken.value) i)
          (ray ((ap integer_in rest ∙ dx.value) i) ((ap integer_in rest₂ ∙ dy.value) i));
      weights = no_weights;
    }

impossible-read : (w : Weights) (r : List ℕ) →
    Counted w →
    w.scale ≡ pos 0 →
    WideWeights w →
    Ended r →
    impossible_in (entries_text w ++ r) ≡ record { outcome = Infeasible; weights = w }
impossible-read w r c z g e =
    λ i. record {
      outcome = Infeasible;
      weights = (ap (λ k. weights_in k (entries_text w ++ r)) (sym z) ∙ entries-read w r c g e) i;
    }

-- with whatever may follow
pub slip-read : (s : Slip) (r : List ℕ) →
    Plain s.outcome s.weights →
    WideOutcome s.outcome →
    WideWeights s.weights →
    Ended r →
    slip_in (slip_text s ++ r) ≡ s
unfolding fields_of
slip-read s r p f g e = go s.outcome p f
  where
    go : (o : Outcome) →
        Plain o s.weights →
        WideOutcome o →
        slip_in (fields_of o s.weights ++ r) ≡ record { outcome = o; weights = s.weights }
    go (Optimal v) p f = best-read v s.weights r p f g e
    go (Unbounded v d) p f =
        unlimited-read v d r f e ∙ ap (λ w. record { outcome = Unbounded v d; weights = w }) (sym p)
    go Infeasible p f = impossible-read s.weights r p.0 p.1 g e

-- what a text says is what it is read as
pub says-read : (l : List ℕ) (s : Slip) → Says l s → slip_in l ≡ s
says-read l s h = go h.stands
  where
    go : Stands s l → slip_in l ≡ s
    go (inl e) =
        ap slip_in (e ∙ sym (append-nil (slip_text s)))
        ∙ slip-read s [] h.plain h.wide-outcome h.wide-weights ended_nil
    go (inr e) = ap slip_in e ∙ slip-read s (text "\n") h.plain h.wide-outcome h.wide-weights ended_feed

-- so a text says one slip at most
pub says-one : (l : List ℕ) (s t : Slip) → Says l s → Says l t → s ≡ t
says-one l s t h k = sym (says-read l s h) ∙ says-read l t k
