-- The functions that make a plan, and their laws. Assumes nothing.
pub mod Best
pub mod Counted
pub mod Sets
pub mod Trying
pub mod Made
pub mod Lines
pub mod Given
pub mod Results
