-- The laws of the planner on bytes: an accepted book's chain as a list of rules (Chains), its rules in the engine's run (Laid), how many a
-- book can have (Classes), from reading and planning to what a run finds (Runs) and what is told of it (Tellings); then what the
-- promises mean, of plans (Demands) and across versions (Across), of panels (Shown) and views (Seen).
pub mod Chains
pub mod Laid
pub mod Classes
pub mod Runs
pub mod Tellings
pub mod Demands
pub mod Across
pub mod Shown
pub mod Seen
