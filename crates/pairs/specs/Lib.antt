-- What a reader must believe of a pair and a direction on a line.
pub mod Pair
