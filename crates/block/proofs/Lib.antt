-- What the proofs of `check`, `print` and the exported function use, the mission, and one outcome.
pub mod Answering
pub mod Entry
pub mod Printing
pub mod Calls
pub mod Once
mod Held
mod Outcomes
