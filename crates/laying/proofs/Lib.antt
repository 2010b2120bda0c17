-- The laws of laying: orders that name each rule (Orders), the run with its frame and the corners that are listed from it (Framed), and
-- what a caller whose numbers are within their ranges finds (Layouts).
pub mod Orders
pub mod Framed
pub mod Layouts
