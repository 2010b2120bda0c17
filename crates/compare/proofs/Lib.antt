-- Why quotients and remainders decide the order of fractions (Parts), what the code's numbers are (Read), and the order of points (Points).
pub mod Parts
pub mod Read
pub mod Points
