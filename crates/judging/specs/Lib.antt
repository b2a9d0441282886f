-- The slices of a block, and what the walks find in it.
pub mod Blocks
pub mod Walks
