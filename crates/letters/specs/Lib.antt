-- What the contracts of this crate say: a class of digits.
pub mod Classes
