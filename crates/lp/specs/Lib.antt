-- What a reader must believe of linear programs: the words (Program), the ranges of what a book gives (Range), amounts of slack (Slack),
-- the textbook's meaning (Textbook), the same as something to compute (Outcome, Prefixes, Start), witnesses (Certificate), the corners of a
-- region (Corners), and document 01's own values and examples (Document, Examples, Starts).
pub mod Program
pub mod Range
pub mod Slack
pub mod Textbook
pub mod Outcome
pub mod Prefixes
pub mod Start
pub mod Certificate
pub mod Document
pub mod Starts
pub mod Minimal
pub mod Examples
pub mod Corners
