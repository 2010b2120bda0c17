-- Laws that the proofs of this crate's functions cite, and those of crates above: each test of a range is its record (Tests), numbers that
-- are read back from their bits (Sizes), and the ways of `amount` (Amounts).
pub mod Tests
pub mod Sizes
pub mod Amounts
