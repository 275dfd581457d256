-- Laws of lines, of a line that is being read, and of what is done with each line. Assumes nothing.
pub mod Lines
pub mod Placed
pub mod Held
pub mod Readers
pub mod Folded
pub mod Walked
pub mod Turns
pub mod Results
