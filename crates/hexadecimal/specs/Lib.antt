-- What the contracts of this crate say: a line's digits.
pub mod Digits
