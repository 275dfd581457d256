-- Laws of hexadecimal that other rooms cite, and laws for the loops of this one. Assumes nothing.
pub mod Values
pub mod Greatest
pub mod Places
pub mod Trips
pub mod Results
