pub mod Sizes
pub mod Rows
pub mod External
pub mod Levels
