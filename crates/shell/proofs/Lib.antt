-- Laws over the program's run as ordered, its loop and loading. Assumes nothing.
pub mod AsOrdered
pub mod Contracts
pub mod Loop
pub mod Saving
