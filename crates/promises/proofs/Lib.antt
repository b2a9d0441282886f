-- That a check with the definitions' answer meets the mission, that the mission fixes that answer, what it shuts out, and request 13.
pub mod Own
pub mod Promised
pub mod Clean
pub mod Said
pub mod Listed
pub mod Meets
pub mod Excluded
pub mod Heads
pub mod Reviews
pub mod Cheap
