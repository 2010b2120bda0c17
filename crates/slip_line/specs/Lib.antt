-- What a reader must believe of the printed slip.
pub mod Line
