-- How a number without a space is spelt (Signed).
pub mod Signed
