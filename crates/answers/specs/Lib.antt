-- Answer frames as 01 lays them out, with 02's refusals. Assumes nothing.
pub mod Answers
pub mod Ranges
