-- What a reader must believe of a line's parts: the bytes of a text (Text), numbers as bytes (Number), and what it means to put bytes
-- into a lent buffer (Append) and into a line (Line).
pub mod Text
pub mod Number
pub mod Append
pub mod Line
