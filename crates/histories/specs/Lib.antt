-- What the check of the phones' records promises. Assumes nothing.
pub mod Committed
pub mod Lending
pub mod Rules
pub mod Reasons
pub mod Checking
pub mod Longest
pub mod Obeying
