-- The one statement about the table. Assumes nothing.
pub mod Twelve
