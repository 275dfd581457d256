-- Laws of the kinds that take from another server. Assumes nothing.
pub mod Results
pub mod Whole
