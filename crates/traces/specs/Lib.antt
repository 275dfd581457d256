-- What a trace has for a line: the line as it is shown, and its answer. Assumes nothing.
pub mod Shown
pub mod Pairs
pub mod Writing
