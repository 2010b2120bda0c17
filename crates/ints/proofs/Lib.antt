-- The laws of this crate, from the ring laws up.
pub mod Laws
pub mod Ring
pub mod Order
pub mod Combine
pub mod Divides
pub mod Gcd
pub mod Reduced
pub mod Machine
pub mod Bits
pub mod Determinant
pub mod Examples
