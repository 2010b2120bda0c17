-- The laws of sessions, and what is refused in small ones, computed (Examples).
pub mod Labels
pub mod Checks
pub mod Laid
pub mod Names
pub mod Held
pub mod Kept
pub mod Led
pub mod Demands
pub mod Examples
