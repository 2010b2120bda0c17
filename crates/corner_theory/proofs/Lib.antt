-- The mathematics of request 110's list, apart from how it is found: the order of points (Order), rising lists (Rising), the theorems that
-- docs/PROMISES.md cites (Theorems), and the list by the region's boundary (Ring).
pub mod Order
pub mod Rising
pub mod Theorems
pub mod Ring
