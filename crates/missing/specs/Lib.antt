-- What the contract of the missing rows of all clauses says.
pub mod Missing
