-- The Rust's own walks, transcribed, and what it means that flat rows show its trees.
pub mod Source
pub mod Shows
