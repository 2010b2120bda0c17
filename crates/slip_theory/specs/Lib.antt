-- The facts of a slip in words.
pub mod Words
