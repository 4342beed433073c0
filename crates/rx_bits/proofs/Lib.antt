pub mod Digits
pub mod Given
pub mod BitByBit
pub mod SignLaws
pub mod Residues
pub mod OneCell
pub mod MovedBlocks
pub mod WholeShifts
pub mod TurnedBlocks
pub mod ToldDigits
mod Examples
