pub mod Residues
pub mod Division
pub mod Laws
