-- The law of the checker of lines: what is answered is right (Answers).
pub mod Answers
