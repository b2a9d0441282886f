-- What is shown of one pattern read after another and of rows; callers cite Rows.
pub mod Turns
pub mod Scan
pub mod Items
pub mod Rounds
pub mod Beside
pub mod Rows
pub mod Once
