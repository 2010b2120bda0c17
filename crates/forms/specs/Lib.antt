-- What a reader must believe of values: the operations on them (Value), and what it means that one is within the limit (Small).
pub mod Value
pub mod Small
