-- Why the code arranges (Steps), what that means (Meaning), and what it comes to for a region's ring (Ring).
pub mod Steps
pub mod Meaning
pub mod Ring
