-- Lemmas over the definitions: a witness's entries (Witness), and the lines spelt out (Examples).
pub mod Witness
pub mod Examples
