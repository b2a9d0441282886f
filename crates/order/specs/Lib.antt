-- The order of frames, and how much a file may say.
pub mod Phases
