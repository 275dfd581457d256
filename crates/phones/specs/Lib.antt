-- A line of a phone's record, and a text of such lines. Assumes nothing.
pub mod Records
pub mod Listed
