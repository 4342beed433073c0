pub mod PairProducts
pub mod Keys
pub mod ChosenParts
pub mod Turning
pub mod Lookup
mod Examples
