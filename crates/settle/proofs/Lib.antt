-- What is shown of the nodes up to the next pattern.
pub mod Settling
pub mod Once
