-- Kinds 10, 11, 12 and 15: what only asks one server, a module each; and all values at once. Assumes nothing.
pub mod LocalRead
pub mod MajorityRead
pub mod Acknowledged
pub mod NewestRead
pub mod Lists
