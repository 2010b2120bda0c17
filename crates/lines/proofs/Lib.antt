-- What lawful constraints give to the tests (Sides).
pub mod Sides
