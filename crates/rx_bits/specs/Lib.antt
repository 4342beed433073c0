pub mod Bits
pub mod Signs
pub mod Shifts
pub mod Constants
