-- What one run over a book finds and leaves in the runs that it is lent (Running).
pub mod Running
