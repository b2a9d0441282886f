-- What the limits' tests say.
pub mod Tests
