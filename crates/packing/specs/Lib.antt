-- What a reader must believe of a written record: its bytes (Bytes).
pub mod Bytes
