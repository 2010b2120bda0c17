-- The laws of a book's list of corners (Laws), and how code comes to it (Assembled).
pub mod Laws
pub mod Assembled
