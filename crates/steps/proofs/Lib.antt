-- Laws of decided steps. Assumes nothing.
pub mod Decided
pub mod Positions
pub mod Results
