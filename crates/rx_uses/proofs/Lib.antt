pub mod Legality
pub mod CellsLaw
pub mod UsesLaw
pub mod Links
pub mod Relinks
mod Examples
