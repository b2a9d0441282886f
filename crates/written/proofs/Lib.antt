-- What a written clause takes is what its simplified row fits, and what its tree takes; and nothing is lost in writing back what was read.
pub mod Fits
pub mod Trees
pub mod Encoded
pub mod Lines
pub mod Lossless
pub mod Solid
