pub mod Turns
pub mod Divisions
mod Examples
