pub mod Carries
pub mod Prefix
pub mod Tree
