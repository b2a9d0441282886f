-- Laws of words and numbers.
pub mod Decimals
pub mod Wording
