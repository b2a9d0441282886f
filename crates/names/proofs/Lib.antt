-- Laws of comparing and of searching.
pub mod Laws
