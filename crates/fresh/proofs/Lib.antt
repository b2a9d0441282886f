-- Laws of names and labels, and what it means that they are new.
pub mod Texts
pub mod FreshMeans
