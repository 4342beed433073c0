pub mod Exponents
pub mod Groupings
mod Examples
