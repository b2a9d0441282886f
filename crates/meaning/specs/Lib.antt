-- What the definitions of `scope` are to mean: values, the paper's usefulness, and what follows for the rows of a file and for their order.
pub mod Values
pub mod Meaning
pub mod Rows
pub mod Order
pub mod NoMore
pub mod Costs
pub mod Tight
pub mod Renamed
