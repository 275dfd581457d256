-- Definitions over numbers and lists that 01's sentences are made of. Assumes nothing.
pub mod Numbers
pub mod Lists
