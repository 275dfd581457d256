-- The step: a record and a step in, the next record and an answer out. Assumes nothing.
pub mod Rules
pub mod One
pub mod Statements
pub mod Stamped
