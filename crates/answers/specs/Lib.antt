-- What is handed back of a book, by value; what is said where a refusal and a plan stand side by side; and the numbers of the causes.
pub mod Cause
pub mod Refusal
pub mod Answer
pub mod Saying
