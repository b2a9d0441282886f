-- One step of each definition of `scope` that goes by fuel, and the types of what `simplify` gives. Other crates cite these laws and not the definitions' text.
pub mod Costs
pub mod Steps
pub mod Texts
pub mod Reading
pub mod Typing
