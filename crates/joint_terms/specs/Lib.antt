-- What two books are planned under.
pub mod Terms
