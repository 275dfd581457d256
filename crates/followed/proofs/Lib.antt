-- Laws of a run that is followed. Assumes nothing.
pub mod Covering
pub mod Followed
pub mod Starts
pub mod Results
