-- What the exact tests promise for any constraints (Sides).
pub mod Sides
