-- What the contracts of this crate say: the place after a pattern as written, and what it leaves to be read.
pub mod Written
