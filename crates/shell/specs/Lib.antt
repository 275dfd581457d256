-- What the program does as ordered, what its loop does to the session, and what loading does. Assumes nothing.
pub mod AsOrdered
pub mod Loop
pub mod Saving
