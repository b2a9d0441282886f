-- What an outcome is in the code.
pub mod Given
