-- The records of a book: how a version lays them out (Layout), a book's layout with its bytes (Encoded), numbers as bytes (Number), a
-- record's fields and what refuses a rule record (Record), the header (Header), and a rule as it is planned (Planned).
pub mod Layout
pub mod Encoded
pub mod Number
pub mod Record
pub mod Header
pub mod Planned
