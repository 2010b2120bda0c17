-- The laws of a written record: what the code writes is what the definitions say (Written).
pub mod Written
