-- Laws of the check of the phones' records. Assumes nothing.
pub mod Lent
pub mod Searching
pub mod Breakers
pub mod Judged
pub mod Exactly
pub mod Holding
pub mod Reasons
pub mod Enough
pub mod Results
