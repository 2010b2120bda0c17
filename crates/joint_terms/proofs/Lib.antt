-- The greater of two numbers as the code tests it, and joined terms in range.
pub mod Compared
