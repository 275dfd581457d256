-- Laws of a trace. Assumes nothing.
pub mod Putting
pub mod Forms
pub mod OfLines
pub mod Passing
pub mod Whole
pub mod Following
pub mod Facts
pub mod ReadBack
pub mod Results
