-- What the contracts of this crate cite: the rows.
pub mod Rows
