-- What a header says, and the causes 1 to 5, of its fields (Tests).
pub mod Tests
