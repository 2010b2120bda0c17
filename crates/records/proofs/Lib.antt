-- The laws of this crate.
pub mod Numbers
pub mod Small
pub mod Offsets
pub mod Checks
