pub mod Lists
pub mod Totals
pub mod Terms
pub mod UnitTerms
pub mod Kept
pub mod Planned
pub mod Numbers
pub mod Given
pub mod PerBlock
pub mod RowLaws
pub mod RowCells
pub mod Held
mod Examples
