-- What a reader must believe of the planner on bytes: what a book is planned as (Planning), its panel (Panel) and the view after a prefix
-- (View). Below these stands what its private functions ask and find (Running), which is in no promise.
pub mod Planning
pub mod Panel
pub mod View
pub mod Running
