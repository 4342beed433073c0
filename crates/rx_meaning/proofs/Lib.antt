pub mod Shifts
pub mod Walks
pub mod LineKinds
pub mod Known
pub mod Ports
pub mod Sums
pub mod Taken
mod Numbers
mod Examples
