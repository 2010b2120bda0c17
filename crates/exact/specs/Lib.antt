-- A constraint turned round (Turned) and the cone of rays (Cone), of which the walk's model makes use; document 01's bounds on what is
-- reckoned with, within which nothing leaves 64 bits (Sizes); and what 64 bits leave of numbers of any size (Wrapped).
pub mod Turned
pub mod Cone
pub mod Sizes
pub mod Wrapped
