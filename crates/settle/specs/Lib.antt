-- What is put up to the next pattern to read.
pub mod Settled
