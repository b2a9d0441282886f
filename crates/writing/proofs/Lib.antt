-- Laws of writing.
pub mod Writing
pub mod Once
