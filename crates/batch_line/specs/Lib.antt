-- The line of a batch's answer (Line).
pub mod Line
