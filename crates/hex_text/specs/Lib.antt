-- What hexadecimal digits and lines stand for. Assumes nothing.
pub mod Digits
pub mod Lines
