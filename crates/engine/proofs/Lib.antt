-- Laws that the proofs of the engine's functions cite: entries put into a run (Laid), the passes over the entries (Passes), the parts of a
-- step (Steps), the walk (Walks) and what it comes to (Solutions), and the ways of `solve` (Solves).
-- Of the region's boundary: edges in a run of indices (Rows), the place of a constraint (Places), turns (Turns), what a constraint drops
-- (Drops), how it enters (Insertions), the ends of its edge (NewEdges), and the walk that carries the ring along (Carried); rows of edges
-- (Named) and the loops that drop some (Dropping), whatever the indices name. What the promise says of numbers within their ranges: Tests.
pub mod Tests
pub mod Laid
pub mod Passes
pub mod Steps
pub mod Walks
pub mod Solutions
pub mod Solves
pub mod Rows
pub mod Named
pub mod Dropping
pub mod Places
pub mod Turns
pub mod Drops
pub mod Insertions
pub mod NewEdges
pub mod Carried
