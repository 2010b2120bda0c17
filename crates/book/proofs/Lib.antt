-- The laws of this crate: answers and refusals, lists and tables, the walk and the causes, the runs and the state of the walk, what holds of accepted books.
pub mod Results
pub mod Members
pub mod TableLaws
pub mod Links
pub mod Decided
pub mod Causes
pub mod Runs
pub mod Leading
pub mod Underway
pub mod Spare
pub mod Bounds
pub mod Floors
pub mod OneLabel
pub mod Said
pub mod Examples
