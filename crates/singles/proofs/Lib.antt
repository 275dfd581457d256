-- Laws of the kinds of one server. Assumes nothing.
pub mod ZeroTime
pub mod Results
