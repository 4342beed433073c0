pub mod Words
pub mod Halves
pub mod Terms
pub mod Vectors
pub mod Spread
pub mod Places
pub mod Quarters
pub mod Convolutions
mod Examples
