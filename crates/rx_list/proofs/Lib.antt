mod Examples
pub mod Overwritten
