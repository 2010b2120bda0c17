-- Runs of digits byte by byte (Runs), and their numbers (Numbers).
pub mod Runs
pub mod Numbers
