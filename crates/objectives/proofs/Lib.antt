-- The laws of the objectives: their ranges and the pass over them (Sound), that the test is what the request says (Wrong), and the causes by
-- number (Turned).
pub mod Sound
pub mod Wrong
pub mod Turned
