-- The boundary of a system's region: what stands in for the denominator (Size), the order of angles in which rules are best taken
-- (Angles), the ring of edges, how a constraint enters it, and its corners (Ring), and the planner's walk with the ring carried along
-- (Quick).
pub mod Size
pub mod Angles
pub mod Ring
pub mod Quick
pub mod Objectives
