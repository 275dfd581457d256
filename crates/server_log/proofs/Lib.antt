-- Laws of logs that other rooms cite, and laws for the loops of this one. Assumes nothing.
pub mod Equal
pub mod Live
pub mod Common
pub mod Latest
pub mod Placed
pub mod Tidy
pub mod Positions
pub mod Orderly
pub mod Rowed
pub mod Ranges
pub mod Results
