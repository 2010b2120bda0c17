-- What arranging promises (Arranging).
pub mod Arranging
