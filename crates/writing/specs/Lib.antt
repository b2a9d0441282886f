-- What every writer promises.
pub mod Writing
