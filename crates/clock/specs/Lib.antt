-- What the clock's functions promise. Assumes nothing.
pub mod Times
pub mod Ranges
