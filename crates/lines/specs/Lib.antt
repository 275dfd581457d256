-- A text's lines, a line that is being read, what is done with each line, a walk that does it, and how a text is read in turns. Assumes nothing.
pub mod Texts
pub mod Held
pub mod Readers
pub mod Folds
pub mod Walks
pub mod Turns
