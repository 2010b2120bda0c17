-- Sizes: z's magnitude is at most n. A record, so that both can be inferred from a fact.
use Rattle.std.specs.Prelude.{ℕ, ◌≤◌, ℤ, nat_abs}

pub record Within (n : ℕ) (z : ℤ) : Type 0 where
  pub small : nat_abs z ≤ n
