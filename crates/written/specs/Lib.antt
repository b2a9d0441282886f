-- Which values a clause takes, by its patterns as written; frames written back, and the statement that nothing is lost.
pub mod Takes
pub mod Trees
pub mod Fitting
pub mod Writing
pub mod Lossless
pub mod Solid
