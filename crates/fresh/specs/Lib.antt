-- What is asked of the slices at a constructor's line.
pub mod Fresh
