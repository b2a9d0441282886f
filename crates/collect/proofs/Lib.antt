-- What the proofs of several functions use.
pub mod Column
pub mod Limits
pub mod Walk
pub mod Calls
pub mod Once
