-- The lemmas of this crate: rows of edges in a run (Rows), the loops over them (Loops), an insertion step by step (Cuts), the ring of all
-- rules (Growth), its corners in a run of numbers (Listings), the tests of what is taken (Testing), the promise of `corners` (Frames),
-- what is listed (Theorems), and how it is read off the run (Points). What holds of rows whatever their indices name is engine's.
pub mod Rows
pub mod Loops
pub mod Cuts
pub mod Growth
pub mod Listings
pub mod Testing
pub mod Frames
pub mod Theorems
pub mod Points
