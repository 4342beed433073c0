pub mod FreshBlocks
pub mod Mixed
pub mod Tagged
pub mod KeptBounds
pub mod MixedPhases
pub mod KeptSums
pub mod KeptNumbers
pub mod KeptLaws
pub mod KeptLists
mod Examples
