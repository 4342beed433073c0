pub mod Compiled
pub mod Faults
pub mod Realized
pub mod Arms
pub mod States
