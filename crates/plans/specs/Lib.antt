-- How to get going again: moves, the plan in seven lines, and what is given of it. Assumes nothing.
pub mod Moves
pub mod Plan
pub mod Making
pub mod Working
