-- The trace of a text, and the same line by line and byte by byte. Assumes nothing.
pub mod Traces
pub mod Reading
pub mod Bytes
pub mod Loop
