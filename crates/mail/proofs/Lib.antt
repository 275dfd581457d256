-- Laws of mail that other rooms cite. Assumes nothing.
pub mod Held
pub mod Good
pub mod Kept
pub mod Filled
pub mod Ranges
pub mod Results
