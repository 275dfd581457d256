-- Laws of the walk over a text. Assumes nothing.
pub mod Frames
pub mod Next
pub mod Ahead
pub mod Told
pub mod Named
pub mod Judged
pub mod Results
