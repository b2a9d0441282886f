-- Laws of readers over a slice and a place, of names and of texts.
pub mod Readers
pub mod Readings
