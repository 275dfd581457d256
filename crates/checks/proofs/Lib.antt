-- Laws over the program's loop, and over what it passes over. Assumes nothing.
pub mod PassedOver
pub mod Both
