-- Where the wrong programs of docs/PROMISES.md part from the promises: the right values, computed, a module a room. Assumes nothing.
pub mod Things
pub mod Clock
pub mod Log
pub mod Mail
pub mod Cluster
pub mod Steps
pub mod Pairs
pub mod Singles
pub mod Asks
pub mod Wholes
pub mod Counts
pub mod Rules
pub mod Hex
pub mod Frames
pub mod Replay
pub mod Histories
