-- What the laws speak of beyond document 01's own definitions.
pub mod Typed
