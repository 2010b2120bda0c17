-- What the checker computes of the model, and the bounds of the numbers that it forms.
pub mod Examples
pub mod Bounds
