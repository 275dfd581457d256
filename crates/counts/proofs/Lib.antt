-- Laws of the kind that counts servers. Assumes nothing.
pub mod Passing
pub mod Results
