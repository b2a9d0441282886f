-- What the contracts of the driver say.
pub mod Driver
