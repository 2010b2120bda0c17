-- The functional model of the walk: scans over a system's entries (Scan), the step from one constraint to the next (Step), and the bounds
-- of what the walk holds (Bounds).
pub mod Scan
pub mod Step
pub mod Bounds
