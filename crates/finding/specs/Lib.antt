-- What a reader must believe of the search: the place of a number in a run (Place).
pub mod Place
