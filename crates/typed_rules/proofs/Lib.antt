-- Lemmas over the definitions: rests of a text (Rests), and the readers against the parser (Parsed, Reading, Following, Whole).
pub mod Rests
pub mod Parsed
pub mod Following
pub mod Reading
pub mod Whole
