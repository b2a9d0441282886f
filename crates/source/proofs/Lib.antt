-- That the flat walks equal the Rust's own.
pub mod Rows
pub mod Columns
pub mod Walks
