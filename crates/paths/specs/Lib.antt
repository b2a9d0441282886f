-- The path of the missing walk, and what the contracts of its writing say.
pub mod Path
pub mod Spread
