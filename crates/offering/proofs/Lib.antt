-- The laws of the answers: as bytes one after the other (Written), numbers that fit (Sizes), the order of corners (Orders), the passes over
-- rules and corners (Passes), the corners that were laid out (Layouts), that they give what a plan would (Planned), and the causes and the
-- promise of `answer` (Answering).
pub mod Written
pub mod Sizes
pub mod Orders
pub mod Passes
pub mod Layouts
pub mod Planned
pub mod Answering
