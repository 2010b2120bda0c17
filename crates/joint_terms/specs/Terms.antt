-- The terms of two books that are planned as one: the tenant's objective, and of each floor the greater.
use Rattle.std.specs.Prelude.{cond, ℤ}
use Rattle.std.specs.Int.Signed.{le_z}
use Rattle.lp.specs.declared.Floors.{Floors}
use Rattle.lp.specs.declared.Terms.{Terms}

-- of each floor the greater
abbrev pub greater : ℤ → ℤ → ℤ
greater y z = cond (le_z y z) z y

abbrev pub greater_floors : Floors → Floors → Floors
greater_floors f g = record { lx = greater f.lx g.lx; ly = greater f.ly g.ly }

-- the objective is the tenant's
abbrev pub joined_terms : Terms → Terms → Terms
joined_terms t u = record { objective = u.objective; floors = greater_floors t.floors u.floors }
