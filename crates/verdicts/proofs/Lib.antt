-- Laws of the verdict. Assumes nothing.
pub mod Filled
pub mod Judged
pub mod Results
