pub mod Names
pub mod Numerals
pub mod Lines
pub mod Faults
pub mod Laws
pub mod NameFields
