-- What a reader must believe of the answers to objectives: what each is answered (Offers), and what `answer` promises (Answering). Below
-- these stand the answers from a list of corners (Listed) and what the private functions ask and hand back (Asked), which are in no
-- promise.
pub mod Offers
pub mod Answering
pub mod Listed
pub mod Asked
