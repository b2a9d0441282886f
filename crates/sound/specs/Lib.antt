-- What is asked of the slices at the subject's line.
pub mod Sound
