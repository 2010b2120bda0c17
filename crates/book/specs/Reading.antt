-- What a book reads as: refused, with document 01's number and record, or accepted, with the terms and the chain.
-- The header comes first; then, along the chain, 6 and 7 are tested for a link and 8, 9, 10 and 12 for the record reached.
use Rattle.std.specs.Prelude.{ℕ, zero, suc, Bool, false, cond, ◌||◌, List, [], ◌∷◌, ◌++◌, map, eqb, ltb}
use Rattle.lp.specs.declared.Constraint.{Constraint}
use Rattle.lp.specs.declared.Terms.{Terms}
use Rattle.records.specs.declared.Rule.{Rule}
use Rattle.records.specs.Layout.{Layout}
use Rattle.records.specs.Record.{record_at, link_of, label_of, rule_of, decoded_of, number_of}
use Rattle.records.specs.Header.{terms_of, count_of, header_fault}
use Rattle.records.specs.Planned.{planned_rule}

-- a rule of the chain, with the index of its record
pub record Entry : Type 0 where
  pub index : ℕ
  pub rule : Rule

-- the record indices of a chain, and its rules as they are planned, in order
abbrev pub records_of : List Entry → List ℕ
records_of es = map (λ e. e.index) es

abbrev pub rules_of : List Entry → List Constraint
rules_of es = map (λ e. planned_rule e.rule) es

pub data Reading : Type 0 where
  refused : ℕ → ℕ → Reading  -- the cause's number, and the record that it names
  accepted : Terms → List Entry → Reading

-- how a walk along the links ends: what the book reads as, and the records that were passed on the way
pub record Ending : Type 0 where
  pub reading : Reading
  pub passed : List ℕ

-- whether a number stands in a list
unfoldable pub memb : ℕ → List ℕ → Bool
memb i [] = false
memb i (x ∷ xs) = eqb i x || memb i xs

module _ (L : Layout) (s : List ℕ) where
  abbrev pub entry_at : ℕ → Entry
  entry_at i = record { index = i; rule = rule_of L (record_at L s i) }

  abbrev pub label_at : ℕ → ℕ
  label_at i = label_of L (record_at L s i)

  -- a link to record i, held by record `at`, with the records `done` passed before; `on` is what the walk comes to from record i on
  unfoldable pub follow : List ℕ → ℕ → ℕ → Ending → Ending
  follow done at i on =
      cond (eqb i 0) (record { reading = accepted (terms_of L s) (map entry_at done); passed = done })
      (cond (ltb (count_of L s) i) (record { reading = refused 6 at; passed = done })
      (cond (memb i done) (record { reading = refused 7 at; passed = done })
      (cond (eqb (number_of (decoded_of L (record_at L s i))) 0)
      (cond (memb (label_at i) (map label_at done)) (record { reading = refused 12 i; passed = done }) on)
      (record { reading = refused (number_of (decoded_of L (record_at L s i))) i; passed = done }))))

  -- the walk, for as many links as the first number says. There are never more links to follow than records, since none is
  -- visited twice, so that its end by the first clause never comes (the laws of `proofs/Causes.antt` show it)
  unfoldable pub walk : ℕ → List ℕ → ℕ → Ending
  walk zero done at = record { reading = refused 7 at; passed = done }
  walk (suc links) done at =
      let i = link_of L (record_at L s at) in
      let on = walk links (done ++ (i ∷ [])) i in
      follow done at i on

-- the whole book: from the header's link on, if the header is not refused
unfoldable pub end_of : Layout → List ℕ → Ending
end_of L s =
    let f = header_fault L s in
    let chain = walk L s L.records [] 0 in
    cond (eqb f 0) chain (record { reading = refused f 0; passed = [] })

abbrev pub read_of : Layout → List ℕ → Reading
read_of L s = (end_of L s).reading

-- the entries of the records that the walk has passed when it ends, at the chain's end or at a refusal
abbrev pub passed_of : Layout → List ℕ → List Entry
passed_of L s = map (entry_at L s) (end_of L s).passed
