-- What the engine promises: the walk along rules that stand in a run of numbers (Solving). Below that, the run as entries of a system
-- (Entries), what a pass holds (Held), the start point's part of a step (Start), and what the engine's private functions ask (Sizes). Of
-- the region's boundary: the ring as indices of entries (Row), what its functions ask and hand back (Rings), and the walk that carries it
-- along (Carrying).
pub mod Entries
pub mod Solving
pub mod Held
pub mod Start
pub mod Sizes
pub mod Row
pub mod Rings
pub mod Carrying
