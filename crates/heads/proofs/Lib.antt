-- Laws of nodes' numbers.
pub mod Nodes
