-- What the start pair's proof cites (Buffers), and what a caller can tell from what is handed back (HandedBack).
pub mod Buffers
pub mod HandedBack
