-- Laws of the saved form that other rooms cite. Assumes nothing.
pub mod Texts
pub mod Fields
pub mod Lawful
pub mod Listed
pub mod First
pub mod Frames
pub mod Allowed
pub mod Going
pub mod Results
