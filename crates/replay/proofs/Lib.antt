-- Laws over what the functions promise: however a text is cut, its answers and the record are those of the whole. Assumes nothing.
pub mod Whole
pub mod Shown
pub mod Laying
pub mod Parts
pub mod Along
pub mod Ahead
pub mod Planned
pub mod Ends
pub mod Refused
pub mod Results
