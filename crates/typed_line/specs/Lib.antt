-- What a reader must believe of a typed text's line: what of the input is the text (Feed), the line of what it reads as (Typed), and
-- lines spelt out (Examples).
pub mod Feed
pub mod Typed
pub mod Examples
