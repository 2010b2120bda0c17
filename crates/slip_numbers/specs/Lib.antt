-- What a reader must believe of the exchange form.
pub mod Form
