-- Laws that the proofs of this crate's functions cite: the run on each of its ways (Runs).
pub mod Runs
