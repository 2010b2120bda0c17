-- The theorems: the rays of a system (Spanned), the first of its corners in any order of them (Picks), and its outcome (Theorems).
pub mod Spanned
pub mod Picks
pub mod Theorems
