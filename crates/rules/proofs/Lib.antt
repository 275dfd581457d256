-- Laws of the step: done or refused, what it leaves alone, and what it keeps. Assumes nothing.
pub mod Outcomes
pub mod Others
pub mod Logs
pub mod Ranges
pub mod Appends
pub mod Servers
pub mod Records
pub mod Keeps
pub mod Parts
pub mod Results
pub mod Shut
pub mod Ranks
pub mod Stamped
