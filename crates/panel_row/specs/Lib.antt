-- What a reader must believe of a panel's lines: their bytes (Panel), and lines spelt out (Examples).
pub mod Panel
pub mod Examples
