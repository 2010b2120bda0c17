-- Lemmas over the definitions: decimal numbers (Decimal) and what they read back as (Reading), bytes put after bytes (Put) and in a line
-- (Adding), and signed numbers as bytes (Integer).
pub mod Decimal
pub mod Reading
pub mod Put
pub mod Adding
pub mod Integer
