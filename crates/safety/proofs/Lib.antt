-- The laws and proofs of the safety theory, and of the records that are joined to it: `Stepped` has what is known of every record that steps
-- lead to from a fresh cluster.
-- Assumes nothing.
pub mod Quorum
pub mod Time
pub mod Leads
pub mod Inv
pub mod Moves
pub mod Acked
pub mod Quiet
pub mod Passes
pub mod Elects
pub mod Writes
pub mod Takes
pub mod Reached
pub mod Demand3
pub mod Joins
pub mod Cut
pub mod NewestSeen
pub mod Views
pub mod SeenQuiet
pub mod SeenTakes
pub mod SeenWrites
pub mod SeenMajorities
pub mod SeenTold
pub mod Stepped
