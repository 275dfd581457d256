-- Kinds 2, 6, 8, 9, 14 and 16: what a server does by itself, a module each. Assumes nothing.
pub mod StepsDown
pub mod Appends
pub mod Writes
pub mod WritesNothing
pub mod WallClock
pub mod Restarts
pub mod TakesReport
