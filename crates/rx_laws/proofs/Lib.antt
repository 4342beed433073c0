pub mod Ring
pub mod Sums
pub mod Torus
pub mod Digits
pub mod DigitLoop
pub mod DigitValue
pub mod Decode
pub mod Lwe
pub mod Words
mod Examples
