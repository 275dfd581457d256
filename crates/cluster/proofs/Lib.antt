-- Laws of records and sets that other rooms cite. Assumes nothing.
pub mod Masks
pub mod Changed
pub mod Good
pub mod Sound
pub mod Fresh
pub mod Results
