-- What is written: numbers, pairs and answers as bytes (Cells).
pub mod Cells
