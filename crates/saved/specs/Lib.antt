-- The saved form of a record: its frames by editions, its text, and which texts have its shape. Assumes nothing.
pub mod Layout
pub mod Editions
pub mod Saved
pub mod Shape
pub mod Written
