-- What the proof of `missing` uses.
pub mod Driver
