pub mod MaskProducts
pub mod LevelSums
pub mod DigitLevels
pub mod Extractions
pub mod Rows
pub mod ExternalSums
pub mod DrawnMasks
mod Examples
