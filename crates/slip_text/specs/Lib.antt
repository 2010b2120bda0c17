-- What a reader must believe of a slip's text.
pub mod Text
