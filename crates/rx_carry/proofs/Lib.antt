pub mod Carried
pub mod BlockJobs
pub mod Prefixes
pub mod Trees
pub mod Summed
mod Examples
