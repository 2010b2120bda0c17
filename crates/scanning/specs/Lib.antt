-- What the readers of texts build on: bytes of a text (Bytes), and the numbers of runs of digits (Runs). A text stands for what is left
-- of it.
pub mod Bytes
pub mod Runs
