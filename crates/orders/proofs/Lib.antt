-- Laws for the function of this room. Assumes nothing.
pub mod Results
