-- What a yes of the checker means: for a chain of rules (Meaning), the facts in words (Stated), and on a book's bytes (Demands).
pub mod Meaning
pub mod Stated
pub mod Demands
