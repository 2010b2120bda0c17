-- What a reader must believe of two books joined: the single list of rules that they make, and what is answered to it (Joining). Below it
-- stands what the private functions ask and find (Running), which is in no promise.
pub mod Joining
pub mod Running
