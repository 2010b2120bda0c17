-- What the comparisons promise for every number (Comparing).
pub mod Comparing
