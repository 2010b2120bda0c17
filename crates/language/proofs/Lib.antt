-- Lemmas over the definitions: spaces (Spaces), the parser step by step (Steps, Rules), and terms and sides as chains of items (Chain). The
-- language: what the parser hands back is lawful and spells the text (Sound), every lawful tree is handed back (Complete), and the answer
-- is exact (Language), a text's flaw for nothing else (Refusals); spaces say nothing (Bare). Texts and a tree that the checker computes
-- (Examples).
pub mod Spaces
pub mod Steps
pub mod Rules
pub mod Chain
pub mod Sound
pub mod Complete
pub mod Language
pub mod Refusals
pub mod Bare
pub mod Examples
