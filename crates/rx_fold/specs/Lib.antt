pub mod Jobs
pub mod Folded
pub mod Laws
pub mod Passes
