pub mod BitLaws
pub mod AmountBits
pub mod SignBlocks
pub mod Parts
pub mod Orders
pub mod Sources
pub mod Staging
pub mod Whole
mod Examples
