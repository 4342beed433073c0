pub mod Polynomial
pub mod Linear
pub mod Rotation
pub mod Monomial
pub mod Greatest
pub mod Congruence
pub mod Parts
pub mod Writes
pub mod Glwe
pub mod Hiding
pub mod Noise
pub mod Turn
pub mod Box
pub mod KeySwitch
pub mod Marks
pub mod BlindRotation
pub mod Bootstrap
pub mod Pairs
pub mod PairBootstrap
pub mod TurnWords
pub mod Combination
mod Examples
mod ExamplesRows
pub mod Blocks
pub mod Levels
pub mod Interleaved
pub mod BlockBounds
pub mod BlockSums
pub mod BlockPlaces
pub mod Recovered
pub mod BlockFits
pub mod Limbs
mod ExamplesBlocks
