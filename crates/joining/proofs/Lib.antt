-- Two books joined: the laws behind the code, and the theorems.
pub mod Behind
pub mod Renames
pub mod Both
pub mod Joins
pub mod Classes
pub mod Allowed
pub mod Named
pub mod Alike
pub mod Demands
pub mod Neutral
