-- What the region's code promises: the corners of a system's ring, listed into a run of numbers (Listing). Below that, the ring as indices
-- of entries in a run (Row), and what the crate's private functions ask and hand back (Asked).
pub mod Row
pub mod Listing
pub mod Asked
