-- Document 01 as definitions, in its own order as far as one needs another. All but SmallBlocks and Calls, which are proved, is to be believed.
pub mod Lists
pub mod Limits
-- "Frames"
pub mod Lines
pub mod Types
pub mod Patterns
pub mod Frames
-- how the code names refusals and kinds
pub mod Numbers
-- "What is refused, and when": 7; then 8, which goes with what the walks make of a pattern; then the order of all that a line can be refused for
pub mod Finite
pub mod Constructors
pub mod Simplify
pub mod Blocks
-- "The two walks"
pub mod Walks
pub mod Driver
-- "The report, whole"
pub mod Text
pub mod Report
-- the answer for a file: 1, 2, 10 and 11, and every byte that was lent
pub mod Answer
-- "Small blocks"
pub mod SmallBlocks
-- "What costs nothing to ask", request 7 of document 02
pub mod Calls
