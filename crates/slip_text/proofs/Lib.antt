-- The laws of a slip's text: its parts (Parts).
pub mod Parts
