-- Laws that the proofs of the crate's functions cite.
pub mod Quotients
