-- The laws of the checker: sizes of what is computed (Sizes), the passes over the chain (Passes), the slots looked up (Slots), that they
-- say what the list of shares says (Shares), what is answered (Judging), and what reading leaves in the runs (Read). Examples computes
-- what is answered of small books.
pub mod Sizes
pub mod Passes
pub mod Slots
pub mod Shares
pub mod Judging
pub mod Read
pub mod Examples
