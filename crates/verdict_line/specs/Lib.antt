-- What a reader must believe of the line that the checker prints (Verdict).
pub mod Verdict
