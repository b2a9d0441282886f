-- Laws of a type's frame and of a constructor's.
pub mod Shapes
