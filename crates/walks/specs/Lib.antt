-- The walks on rows of numbers, and what ties them to `scope`.
pub mod Walks
pub mod Limits
pub mod Bridge
