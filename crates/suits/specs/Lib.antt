-- A pattern as its bytes have it, and what it becomes at a type.
pub mod Raws
pub mod Suits
