pub mod Amount
pub mod Signed
pub mod Shifts
