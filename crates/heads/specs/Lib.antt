-- What nodes' numbers say.
pub mod Heads
