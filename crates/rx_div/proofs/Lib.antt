pub mod Leading
pub mod Composed
pub mod Padded
pub mod Taken
pub mod Stepped
pub mod Progressed
pub mod QuotientDigits
pub mod Whole
mod Examples
