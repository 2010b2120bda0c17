-- The laws of reading slips: the line of a slip read back as that slip (Lines), what any bytes are read as (Saying), and texts compared
-- (Comparing).
pub mod Comparing
pub mod Lines
pub mod Saying
