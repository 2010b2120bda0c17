-- Lemmas over the definitions: numbers, forms and operations' cases (Values), what an operand within the limit is (Held), and that the
-- operations make no flaws but a text's (Known).
pub mod Values
pub mod Held
pub mod Known
