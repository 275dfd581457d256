-- Kinds 0, 1 and 13: what changes the whole cluster, a module each. Assumes nothing.
pub mod Starts
pub mod Elects
pub mod ClocksAgree
