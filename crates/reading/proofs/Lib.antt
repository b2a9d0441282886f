-- What the tables and the numbers say, kept by each line; the lines of a file, and the whole of it.
mod Numbers
pub mod Framing
pub mod Entering
pub mod Stepping
pub mod Lines
pub mod Whole
pub mod Once
pub mod Literals
mod Relent
