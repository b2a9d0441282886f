-- What the contracts of this crate say: a whole frame, the frame that a line holds, and the tests of it before what it adds.
pub mod Wholes
pub mod Lines
pub mod Checked
