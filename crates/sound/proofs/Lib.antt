-- Laws of what is known of the types, and what it means that the table is sound.
pub mod Known
pub mod SoundMeans
