-- The points that are left of a run of them, written if they fit (Finishing).
pub mod Finishing
