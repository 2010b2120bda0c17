-- What the panel of a book holds, by its refusal, or by the outcome and the records of its chain (Showing).
pub mod Showing
