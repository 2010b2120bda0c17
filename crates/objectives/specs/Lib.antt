-- What a reader must believe of a batch's objectives: how they are read (Objectives), and cause 16 in words (Causes).
pub mod Objectives
pub mod Causes
