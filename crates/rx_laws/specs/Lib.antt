pub mod Sum
pub mod Torus
pub mod Words
pub mod Digits
pub mod Lwe
pub mod Decode
pub mod Laws
