-- What both walks find and what is answered for it, and that a block has one outcome.
pub mod Walking
pub mod Judging
pub mod Once
