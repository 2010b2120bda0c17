-- Numbers within document 01's bounds, and what is made of them on the way (Sizes); and that of these the functions that wrap hand back
-- the exact number (Exact).
pub mod Sizes
pub mod Exact
