pub mod Chosen
pub mod Grouping
pub mod Nodes
pub mod Equal
pub mod Ordered
pub mod SignedOut
pub mod Outermost
mod Examples
