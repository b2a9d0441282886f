-- What is shown of runs of nodes, of their numbers, of `left`, of marks, of the stack and of the items that are pending.
pub mod Runs
pub mod Numbers
pub mod Lefts
pub mod Marks
pub mod Pending
