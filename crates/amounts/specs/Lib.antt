-- What the crate promises: ranges as tests (Tests), and a point's amount of a constraint (Amounts). What an exact distance asks is in
-- Sizes.
pub mod Tests
pub mod Amounts
pub mod Sizes
