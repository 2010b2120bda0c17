-- What a reader must believe of the printed line: the line as bytes (Line), what writing it into a buffer means (Written), and lines spelt
-- out (Examples).
pub mod Line
pub mod Written
pub mod Examples
