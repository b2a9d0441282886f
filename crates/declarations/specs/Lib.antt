-- What the contracts of this crate say: the pieces of a type's frame and of a constructor's.
pub mod Pieces
