-- The verdict on what phones saw. Assumes nothing.
pub mod Verdicts
