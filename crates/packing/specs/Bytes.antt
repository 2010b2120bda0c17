-- A record as bytes of a layout: the header of some terms, and a rule, each with its link.
use Rattle.std.specs.Prelude.{ℕ, ◌+◌, ◌*◌, cond, List, ◌++◌}
use Rattle.std.specs.Int.{w16, w32}
use Rattle.std.proofs.Common.{of_z}
use Rattle.lp.specs.declared.Floors.{Floors}
use Rattle.lp.specs.declared.Terms.{Terms}
use Rattle.records.specs.declared.Rule.{Rule}
use Rattle.records.specs.Layout.{Layout}
use Rattle.records.specs.Number.{bytes_of}

-- two floors as one number of four bytes, x in the half that counts least
abbrev pub tail_with : Floors → ℕ
tail_with f = of_z w16 f.lx + 65536 * of_z w16 f.ly

module _ (L : Layout) where
  -- a record's bytes, from its fields as unsigned numbers
  unfoldable pub record_bytes : (link kind a b label c : ℕ) → List ℕ
  record_bytes link kind a b label c =
      bytes_of L.link link
      ++ (bytes_of 1 kind ++ (bytes_of L.pad 0 ++ (bytes_of 2 a ++ (bytes_of 2 b ++ (bytes_of 2 label ++ bytes_of 4 c)))))

  -- the header's tail: the floors, where the layout has them, else zero
  abbrev pub tail_of : Terms → ℕ
  tail_of t = cond L.floors (tail_with t.floors) 0

  abbrev pub header_bytes : ℕ → Terms → ℕ → List ℕ
  header_bytes first t n =
      record_bytes first L.version (of_z w16 t.objective.p) (of_z w16 t.objective.q) n (tail_of t)

  abbrev pub rule_bytes : ℕ → Rule → List ℕ
  rule_bytes next r = record_bytes next r.kind (of_z w16 r.a) (of_z w16 r.b) r.label (of_z w32 r.c)
