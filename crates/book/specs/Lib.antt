-- What a book reads as (Reading), what that leaves in runs that are lent (Runs), its repacked form (Repacking), what the public functions
-- promise of both (Promises), the documents' table of causes as statements (Causes), and which records are spare (Spare). Tables and
-- Judging are cited by private functions alone.
pub mod Reading
pub mod Runs
pub mod Promises
pub mod Causes
pub mod Spare
pub mod Tables
pub mod Judging
