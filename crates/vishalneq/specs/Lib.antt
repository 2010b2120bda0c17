-- What the loaded functions promise of the buffers that are lent to them (Corners, Batch, Exchange); of one book and of two joined crates
-- `one_book` and `joint_line` say it.
pub mod Corners
pub mod Batch
pub mod Exchange
