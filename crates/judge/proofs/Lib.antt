-- What the proofs of several functions use, and what the driver's answer says.
pub mod Clauses
pub mod Driver
