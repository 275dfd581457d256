-- What is followed along a run. Assumes nothing.
pub mod Longest
pub mod Follow
