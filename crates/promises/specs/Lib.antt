-- What is promised, a file a promise: `Runs` is what all of them speak of, `Held` what servers hold along it; `Demand3`; `Newest`, the read that is sure to be newest; `Clocks`,
-- how far times run ahead; `Longest`, that there is a longest beginning; `Honest`, that an honest phone is never accused; `Texts`, that the
-- program's texts are runs; `Written`, what the program writes; `Verdicts`, what it says of phones.
-- Assumes nothing.
pub mod Runs
pub mod Held
pub mod Demand3
pub mod Newest
pub mod Clocks
pub mod Longest
pub mod Honest
pub mod Texts
pub mod Written
pub mod Verdicts
