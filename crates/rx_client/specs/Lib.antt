pub mod Encrypt
pub mod Decrypt
pub mod Reads
pub mod Laws
