-- What is shown of one pattern at one type; callers cite Facts and Suiting.
pub mod Small
pub mod Facts
pub mod Suiting
