-- What a reader must believe of a batch: what it promises (Promises) and its causes in words (Causes), over what its objectives are
-- (`objectives`) and what each is answered (`offering`). Below these stands what its private functions ask of the runs that they are lent
-- (Asked), which is in no promise.
pub mod Promises
pub mod Causes
pub mod Asked
