-- The lines spelt out (Examples).
pub mod Examples
