-- Laws of patterns as written.
pub mod Written
