-- What the laying of the floors promises (Floors).
pub mod Floors
