pub mod Vectors
pub mod Turns
pub mod Congruent
pub mod Levels
pub mod Exact
pub mod WindowSums
pub mod SixLimbs
pub mod Residues
pub mod Rows
pub mod Chunks
pub mod LimbProducts
pub mod ResidueBlocks
pub mod KeyPoints
pub mod RowPoints
pub mod RowsEvaluated
mod Examples
