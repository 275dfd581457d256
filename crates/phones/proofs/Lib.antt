-- Laws of a text of phones' records. Assumes nothing.
pub mod Texts
pub mod Kept
pub mod Results
