-- The functions that make a pair, and that it is the line and its answer. Assumes nothing.
pub mod Cut
pub mod Each
pub mod Decimal
pub mod Texts
pub mod Keeping
pub mod Results
