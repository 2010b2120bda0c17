-- What a reader must believe of the session program's lines: the numbers in them (Fields), and what each line asks for (Lines). Asked is
-- cited by private functions alone.
pub mod Fields
pub mod Lines
pub mod Asked
