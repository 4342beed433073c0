pub mod NameLemmas
pub mod Splits
pub mod NumeralLemmas
mod Examples
