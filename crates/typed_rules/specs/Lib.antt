-- What the readers of a typed text promise. None of it need be believed, since `read_rule` equals the parser's answer (`language`):
-- what the private functions promise (Promises).
pub mod Promises
