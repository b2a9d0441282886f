-- How types and simplified patterns lie in slices of numbers.
pub mod Places
pub mod Types
pub mod Nodes
pub mod Stores
