-- Laws of times that other rooms cite. Assumes nothing.
pub mod Order
pub mod Ticks
pub mod Results
