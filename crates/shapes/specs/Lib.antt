-- How the shape of a text is told byte by byte. Assumes nothing.
pub mod Walk
