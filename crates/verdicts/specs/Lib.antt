-- The verdicts that bytes say.
pub mod Verdicts
