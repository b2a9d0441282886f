-- Laws of the type table's slices, and what the slices mean.
pub mod Stores
pub mod Reading
pub mod FrameBytes
pub mod Held
pub mod Tables
pub mod TypeMeans
pub mod CtorMeans
pub mod Carried
pub mod Once
