pub mod Each
pub mod Numbers
pub mod Laid
pub mod Inputs
pub mod Sums
pub mod Faults
pub mod Limits
pub mod Fits
pub mod NoFault
pub mod Bounded
pub mod Grows
pub mod WordsOf
pub mod Evaluates
pub mod Additions
pub mod Named
pub mod NarrowJobs
pub mod TestNets
mod Examples
