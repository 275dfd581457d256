-- Numbers of two bytes, and lines of so many bytes. Assumes nothing.
pub mod Words
