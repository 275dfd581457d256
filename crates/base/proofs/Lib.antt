-- Laws that every room cites: one set for each shape of a loop. Assumes nothing.
pub mod Bools
pub mod Facts
pub mod Every
pub mod Pointwise
pub mod Counting
pub mod Highest
pub mod Greatest
pub mod Each
pub mod Made
pub mod Numbered
pub mod Joined
pub mod Cases
pub mod Replaced
pub mod Results
