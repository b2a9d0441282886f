-- What the proofs of several functions use.
pub mod PathLaws
pub mod PathSpread
pub mod PathPuts
pub mod PathChoose
pub mod Once
