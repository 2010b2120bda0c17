-- The laws of planned lists, from the order of a witness's entries to demand 3.
pub mod Ordered
pub mod Names
pub mod Sums
pub mod Finish
pub mod Demands
