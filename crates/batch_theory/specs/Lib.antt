-- The rays of a list of rules, which no objective has a part in (Rays).
pub mod Rays
