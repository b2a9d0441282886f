-- What the proof of `say` uses, and that it has one outcome.
pub mod Saying
pub mod Once
