-- One page: what is claimed to be proved. Assumes nothing.
pub mod Claims
