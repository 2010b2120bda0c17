-- What a reader must believe of the reading of slips: which slips a text says (Reading). Below it stands how any bytes are
-- read (Fields), and what the private functions hand back (Asked), which are in no promise.
pub mod Fields
pub mod Asked
pub mod Reading
