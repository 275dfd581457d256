-- Laws of decoding and loading. Assumes nothing.
pub mod Fields
pub mod Counted
pub mod Decoding
pub mod Shaped
pub mod Fit
pub mod Lines
pub mod Alike
pub mod Same
pub mod Texts
pub mod Saves
pub mod Loads
pub mod Results
