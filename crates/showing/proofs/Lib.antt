-- Laws that the proofs of this crate's functions cite: the lines of records one after another, which are a book's panel (Rows).
pub mod Rows
