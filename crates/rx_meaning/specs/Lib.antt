pub mod Kinds
pub mod Operations
pub mod Inputs
pub mod Values
pub mod Costs
pub mod Bounds
pub mod Laws
