-- Lemmas over the definitions: a panel's lines (Rows), and those spelt out (Examples).
pub mod Rows
pub mod Examples
