-- What the cluster's functions promise. Assumes nothing.
pub mod Servers
pub mod Sets
pub mod WellFormed
pub mod Ranges
