-- Laws of the kinds that only ask. Assumes nothing.
pub mod Walks
pub mod Results
