pub mod FoundBlocks
pub mod FoundDigits
pub mod OutputItems
mod Examples
