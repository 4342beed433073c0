pub mod Derived
pub mod Acceptance
pub mod Sets
pub mod Kinds
pub mod Text
