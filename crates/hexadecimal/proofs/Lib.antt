-- Laws of a line's characters, and that a line is read in one way.
pub mod Hexadecimal
pub mod Once
