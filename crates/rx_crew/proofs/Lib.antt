pub mod Operands
pub mod Basis
pub mod Laying
pub mod Placed
pub mod OutputCells
pub mod CellTags
pub mod TermBounds
pub mod KeptCells
pub mod KeptJob
pub mod Keeping
pub mod InputWords
pub mod Boards
mod Examples
