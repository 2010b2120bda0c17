-- What a reader must believe of the checker: document 02's ranges and facts (Facts), and the exchange form (Numbers). Weights has those that
-- name no entry. Runs and Slots are what its private functions ask and hold.
pub mod Facts
pub mod Numbers
pub mod Runs
pub mod Slots
pub mod Weights
