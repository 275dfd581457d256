-- Laws of the kinds that change the whole cluster. Assumes nothing.
pub mod Voting
pub mod Results
