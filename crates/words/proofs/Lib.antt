-- Laws of numbers of two bytes and of lines of so many bytes. Assumes nothing.
pub mod Bytes
pub mod Framed
pub mod Results
