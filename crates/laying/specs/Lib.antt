-- What laying promises (Laying), and what its private functions ask and hand back (Asked).
pub mod Laying
pub mod Asked
