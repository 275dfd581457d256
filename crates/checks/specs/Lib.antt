-- What the program's loop does with what it reads, what it passes over, and which records a sentence names. Assumes nothing.
pub mod Passing
pub mod Reading
pub mod Finding
