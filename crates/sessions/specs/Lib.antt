-- What a reader must believe of a session: what one is and what its answer is (Sessions), and what each step does to it (Steps). Laying
-- and Checking are cited by private functions alone.
pub mod Sessions
pub mod Steps
pub mod Laying
pub mod Checking
