-- The laws of the session program's lines: numbers (Signs), steps (Taken), words (Spelling), lines (Choosing), and lines worked out
-- (Examples).
pub mod Signs
pub mod Taken
pub mod Spelling
pub mod Choosing
pub mod Examples
