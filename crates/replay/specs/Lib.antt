-- The answers to a text's lines, and the same byte by byte. Assumes nothing.
pub mod Texts
pub mod Pieces
pub mod Lent
pub mod Plans
