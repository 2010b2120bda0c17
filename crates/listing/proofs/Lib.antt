-- Why the loop writes the list (Written).
pub mod Written
