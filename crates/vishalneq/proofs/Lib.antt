-- What the proof of the corners' function cites.
pub mod Counted
