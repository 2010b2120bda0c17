-- The definitions of this crate: the order's notation, the greatest common divisor, and a bound on a magnitude.
pub mod Order
pub mod Gcd
pub mod Within
