-- Laws that the proofs of the functions cite: what their tests come to in the definitions.
pub mod Witnesses
