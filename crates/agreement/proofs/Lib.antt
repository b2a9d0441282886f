-- That on every block the flat walks and texts equal the Rust's own.
pub mod Raws
pub mod Texts
pub mod Clauses
pub mod Tables
pub mod Blocks
pub mod Agreement
