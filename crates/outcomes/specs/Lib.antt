-- What the limits make of a call.
pub mod Past
