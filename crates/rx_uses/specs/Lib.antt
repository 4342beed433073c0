pub mod Cells
pub mod Uses
pub mod Links
pub mod Laws
