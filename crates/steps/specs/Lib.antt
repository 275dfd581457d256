-- Refusals in order, what an answer says, and the fields that a step fills. Assumes nothing.
pub mod Refusals
pub mod Reasons
pub mod Answers
pub mod Fields
pub mod Ranges
