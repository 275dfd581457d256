-- What a text decodes to, and what loading it gives. Assumes nothing.
pub mod Decoded
pub mod Loads
pub mod Statements
