-- The laws of the repacked form: its bytes (Packed), what the code leaves in the output (Output), how it reads (Readback), and what
-- follows (RepackLaws).
pub mod Packed
pub mod Output
pub mod Readback
pub mod RepackLaws
