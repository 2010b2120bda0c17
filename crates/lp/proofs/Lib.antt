-- What the checker computes of the definitions.
pub mod Examples
pub mod Minimal
