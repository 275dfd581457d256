-- What the log's functions promise. Assumes nothing.
pub mod Entries
pub mod Logs
pub mod Order
pub mod Rows
pub mod Ranges
