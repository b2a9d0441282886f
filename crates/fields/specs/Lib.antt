-- What the contracts of this crate say: the places that readers reach.
pub mod Places
