-- The numbers of nodes, how many patterns are left beside them, and the open patterns with the items that they stand for.
pub mod Keys
pub mod Lefts
pub mod Opens
