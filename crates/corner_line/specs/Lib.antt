-- What is printed of a corner (Line).
pub mod Line
