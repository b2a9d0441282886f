-- The Rust's own texts and `simplify`, transcribed, and the statement that the definitions agree with the Rust.
pub mod Trees
pub mod Agreement
