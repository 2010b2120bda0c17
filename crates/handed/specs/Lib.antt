-- What is handed back as one number (Told), and a start pair in a lent run (Start).
pub mod Told
pub mod Start
