pub mod Values
pub mod Reading
pub mod Inputs
pub mod Outputs
