-- Laws of a whole frame, of the reader that stands over a line, and of the tests of a line's frame, branch by branch.
pub mod Wholes
pub mod Framings
pub mod Checks
