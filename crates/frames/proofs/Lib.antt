-- Laws of step frames that other rooms cite, and laws for the functions of this one. Assumes nothing.
pub mod Table
pub mod Unknown
pub mod Lengths
pub mod StepFrames
pub mod Steps
pub mod Results
