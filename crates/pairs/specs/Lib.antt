-- Kinds 3, 4 and 5: what a server takes from another. Assumes nothing.
pub mod Hears
pub mod Reports
pub mod Pulls
pub mod RollsBack
