-- Kind 7: what counts servers. Assumes nothing.
pub mod Advances
