-- The laws of a batch: a book's rules in the run that is lent (Books), the runs of its class (Runs), what a batch comes to (Output), and
-- what its promise means (Demands).
pub mod Books
pub mod Runs
pub mod Output
pub mod Demands
