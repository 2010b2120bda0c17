-- What a reader must believe of the checker of lines: what is said of a text (Checks).
pub mod Checks
