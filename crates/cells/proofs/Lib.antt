-- Laws of writing and of parts of lists that other crates cite too.
pub mod Laws
pub mod Parts
