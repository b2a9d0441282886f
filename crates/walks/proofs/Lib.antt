-- That the walks on numbers are their own recursion, and those of `scope` on every table that numbers hold.
pub mod Limits
pub mod Measure
pub mod Enough
pub mod MissingSteps
pub mod BridgeTexts
pub mod BridgeRows
pub mod BridgeNodes
pub mod BridgeColumns
pub mod BridgeTable
pub mod BridgeUseful
pub mod BridgeMissing
