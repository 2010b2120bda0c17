-- What the session program's private functions tell one another.
pub mod Lines
