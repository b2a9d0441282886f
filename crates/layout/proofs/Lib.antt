-- Laws of places in slices, and of the names that stand there.
pub mod Loops
pub mod Slices
pub mod Texts
pub mod Chains
