-- What a reader must believe of typed rules: the language as trees and the texts that they spell (Grammar), and the value of a tree
-- (Value). What the code equals need not be believed: the parser (Parser), of which proofs/ show that it answers with the value of the
-- one lawful tree that spells the text, or with the flaw of a text where there is none. Texts with what they read as, spelt out (Examples).
pub mod Grammar
pub mod Value
pub mod Parser
pub mod Examples
