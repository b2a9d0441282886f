-- What a check promises, what is printed, and the answer as numbers.
pub mod Check
pub mod Print
pub mod Called
