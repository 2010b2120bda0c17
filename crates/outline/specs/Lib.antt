-- The corners of a book: what its bytes come to (Outline).
pub mod Outline
