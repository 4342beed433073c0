pub mod Selection
pub mod Groups
pub mod Equality
pub mod Order
