-- What the program is ordered. Assumes nothing.
pub mod Orders
