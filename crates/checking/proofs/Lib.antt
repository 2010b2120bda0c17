-- The laws of the checker alone: the rule at the place of its record (Naming), and what crate exact asks of its numbers and hands back
-- (Exact). All others are crate `slip`'s.
pub mod Naming
pub mod Exact
