-- What is written of a run of points (Listing).
pub mod Listing
