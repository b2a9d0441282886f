-- Document 01's table "What is refused, and when", row by row, as a relation beside the definition `answer`.
pub mod Cut
pub mod Suits
pub mod Bytes
pub mod Refusals
pub mod Exactly
