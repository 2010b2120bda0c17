-- What a reader must believe of a joint answer's line (JointLine), and of the line of two books (OfBooks).
pub mod JointLine
pub mod OfBooks
