-- What a reader must believe of the writer: what it promises (Writing). Pass and Runs are what its private functions find and ask.
pub mod Pass
pub mod Runs
pub mod Weights
pub mod Writing
