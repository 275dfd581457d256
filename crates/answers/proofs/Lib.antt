-- Laws of answer frames that other rooms cite, and laws for the functions of this one. Assumes nothing.
pub mod Numbered
pub mod Lengths
pub mod Answers
pub mod Results
