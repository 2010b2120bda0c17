-- The laws of the search: records passed by eight and one by one (Passing), and that the place reached is the one defined (Places).
pub mod Passing
pub mod Places
