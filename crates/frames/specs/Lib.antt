-- Step frames as 01 lays them out, with 02's kinds. Assumes nothing.
pub mod Layout
pub mod Kinds
pub mod Steps
