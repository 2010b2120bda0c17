-- What a reader must believe of a planned list of rules: what it is planned as (Planning), and what is added up of its witness (Adding).
pub mod Planning
pub mod Adding
