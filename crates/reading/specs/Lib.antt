-- What the tables and the numbers say of a file so far, what one more line adds, and what a whole file gives.
pub mod Said
pub mod Enters
pub mod Files
