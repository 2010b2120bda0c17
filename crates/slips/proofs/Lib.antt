-- The laws of the writer: sizes (Sizes), and that the pass finds what proves an optimum (Nearest).
pub mod Sizes
pub mod Nearest
pub mod Enclosed
pub mod Chosen
pub mod Lending
pub mod Yes
pub mod Conflict
pub mod Promised
