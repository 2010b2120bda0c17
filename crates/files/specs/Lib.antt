-- What a reader must believe of files that were read.
pub mod Loading
