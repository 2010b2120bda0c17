-- What a reader must believe of the repacked form: its bytes (Repacking), and what the repacker promises (Promises).
pub mod Repacking
pub mod Promises
