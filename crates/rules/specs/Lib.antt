-- Which types a pattern suits.
pub mod Kinds
