-- The laws of a book's corners: what they come to (Books), and that a list that was written is within the output (Within).
pub mod Books
pub mod Within
