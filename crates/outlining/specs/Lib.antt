-- What listing the corners that were laid out promises (Finishing).
pub mod Finishing
